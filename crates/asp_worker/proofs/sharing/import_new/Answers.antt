use Rattle.std.proofs.Common.{refl, arith}
use Rattle.asp_slots.specs.Shelves.{listed, ReadsOn}
use Rattle.asp_slots.proofs.ShelfLaws.{at-on, reads-trans, still-seen}
use Rattle.asp_worker.specs.Sharing.{Remembers}
use Rattle.asp_worker.proofs.Replies.{always-err}
use Rattle.asp_worker.proofs.SharingLaws.{none-new, read-for}
use Rattle.asp_worker.proofs.sharing.import_new.Goals as goal

pub returns-then-count-from-clause-read : goal.returns-then-count-from-clause-read
returns-then-count-from-clause-read g c = still-seen c.args.read.now c.args.pages.now c.count.new.seat c.count.ensures.reads c.requires.read

pub returns-then-count-from-clause-ok : goal.returns-then-count-from-clause-ok
returns-then-count-from-clause-ok g c =
    let le = still-seen c.args.read.now c.args.pages.now c.count.new.seat c.count.ensures.reads c.requires.read in
    none-new c.args.search.now c.count.new.seat c.args.read.now (omega (arith, le, c.count.ensures.count, c.from.ensures, c.if-count-from.true))

pub returns-then-count-from-clause-all : goal.returns-then-count-from-clause-all
returns-then-count-from-clause-all g c =
    let le = still-seen c.args.read.now c.args.pages.now c.count.new.seat c.count.ensures.reads c.requires.read in
    omega (arith, le, c.count.ensures.count, c.from.ensures, c.if-count-from.true)

pub read-requires-clause-at : goal.read-requires-clause-at
read-requires-clause-at g c = at-on c.args.shared.now.log c.args.pages.now c.count.new.seat c.requires.at c.count.ensures.reads

pub read-requires-clause-from : goal.read-requires-clause-from
read-requires-clause-from g c = still-seen c.args.read.now c.args.pages.now c.count.new.seat c.count.ensures.reads c.requires.read

pub returns-in_err-entries-clause-reads : goal.returns-in_err-entries-clause-reads
returns-in_err-entries-clause-reads g c = reads-trans c.args.pages.now c.count.new.seat c.read.new.seat c.count.ensures.reads c.read.ensures.reads

pub returns-in_err-entries-clause-read : goal.returns-in_err-entries-clause-read
returns-in_err-entries-clause-read g c =
    let on : ReadsOn c.args.pages.now c.read.new.seat = reads-trans c.args.pages.now c.count.new.seat c.read.new.seat c.count.ensures.reads c.read.ensures.reads in
    still-seen c.args.read.now c.args.pages.now c.read.new.seat on c.requires.read

pub returns-in_err-entries-clause-err : goal.returns-in_err-entries-clause-err
returns-in_err-entries-clause-err g c = always-err c.from_residual.result (Remembers c.args.search.now c.args.search.now) (record { program = refl; mode_is = refl; known = refl; bound = refl })

pub import_all-requires-clause-few : goal.import_all-requires-clause-few
import_all-requires-clause-few g c = omega (arith, c.in_ok-entries.ensures.ok.count, c.read.ensures.few)

pub import_all-requires-clause-good : goal.import_all-requires-clause-good
import_all-requires-clause-good g c =
    (read-for c.args.shared.now.log c.args.search.now.program c.read.new.seat c.args.read.now (listed c.in_ok-entries.entries) c.requires.program
    c.in_ok-entries.ensures.ok).good

pub returns-in_err-import_all-clause-reads : goal.returns-in_err-import_all-clause-reads
returns-in_err-import_all-clause-reads g c = reads-trans c.args.pages.now c.count.new.seat c.read.new.seat c.count.ensures.reads c.read.ensures.reads

pub returns-in_err-import_all-clause-read : goal.returns-in_err-import_all-clause-read
returns-in_err-import_all-clause-read g c =
    let on : ReadsOn c.args.pages.now c.read.new.seat = reads-trans c.args.pages.now c.count.new.seat c.read.new.seat c.count.ensures.reads c.read.ensures.reads in
    still-seen c.args.read.now c.args.pages.now c.read.new.seat on c.requires.read

pub returns-in_err-import_all-clause-err : goal.returns-in_err-import_all-clause-err
returns-in_err-import_all-clause-err g c = always-err c.from_residual-in_err-import_all.result (Remembers c.args.search.now c.import_all.new.search) c.in_err-import_all.ensures.err

pub len-requires : goal.len-requires
len-requires g c = omega (arith, c.in_ok-entries.ensures.ok.count, c.read.ensures.few)

pub overflow_add-read : goal.overflow_add-read
overflow_add-read g c = omega (arith, c.in_ok-entries.ensures.ok.count, c.len.ensures, c.read.ensures.few)

pub returns-clause-reads : goal.returns-clause-reads
returns-clause-reads g c = reads-trans c.args.pages.now c.count.new.seat c.read.new.seat c.count.ensures.reads c.read.ensures.reads

pub returns-clause-read : goal.returns-clause-read
returns-clause-read g c = omega (arith, c.in_ok-entries.ensures.ok.count, c.len.ensures)

pub returns-clause-ok : goal.returns-clause-ok
returns-clause-ok g c = record {
  entries = listed c.in_ok-entries.entries;
  read = read-for c.args.shared.now.log c.args.search.now.program c.read.new.seat c.args.read.now (listed c.in_ok-entries.entries) c.requires.program c.in_ok-entries.ensures.ok;
  imported = c.in_ok-import_all.ensures.ok;
}

pub returns-clause-all : goal.returns-clause-all
returns-clause-all g c = omega (arith, c.in_ok-entries.ensures.ok.count, c.len.ensures)
