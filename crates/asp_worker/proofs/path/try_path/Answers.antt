use Rattle.std.proofs.Common.{◌≡◌, ◌<◌, true, sym, ◌∙◌, subst}
use Rattle.asp_vault.specs.Seats.{view}
use Rattle.asp_book.specs.Calls.{Knows}
use Rattle.asp_worker.specs.Working.{IsOff}
use Rattle.asp_worker.proofs.SeatLaws.{holds-idles, idles-passes, keeps-trans}
use Rattle.asp_worker.proofs.GoingLaws.{goes-on, owes-of, owes-on}
use Rattle.asp_slots.proofs.ShelfLaws.{still-seen}
use Rattle.asp_worker.proofs.Replies.{always-err, memory-stop}
use Rattle.asp_core.specs.Boards.{is_enough}
use Rattle.asp_worker.proofs.OwnLaws.{was-now}
use Rattle.asp_worker.proofs.path.try_path.Goals as goal

pub returns-then-is_enough-clause-read : goal.returns-then-is_enough-clause-read
returns-then-is_enough-clause-read g c = still-seen c.args.engine.now.read c.args.worker.now.pages c.is_enough.new.worker.pages c.is_enough.ensures.keeps.pages c.requires.read

pub returns-then-is_enough-clause-err : goal.returns-then-is_enough-clause-err
returns-then-is_enough-clause-err g c =
    let v : Knows = view c.args.worker.now.seat in let w : Knows = view c.is_enough.new.worker.seat in
    record {
      held = holds-idles v w c.args.leaf.now c.requires.held c.is_enough.ensures.idles;
      units =
          owes-on v w c.args.engine.now.fuel (owes-of c.requires.going) (idles-passes v w c.is_enough.ensures.idles);
    }

pub begin-requires-clause-held : goal.begin-requires-clause-held
begin-requires-clause-held g c = holds-idles (view c.args.worker.now.seat) (view c.is_enough.new.worker.seat) c.args.leaf.now c.requires.held c.is_enough.ensures.idles

pub begin-requires-clause-going : goal.begin-requires-clause-going
begin-requires-clause-going g c =
    let v : Knows = view c.args.worker.now.seat in let w : Knows = view c.is_enough.new.worker.seat in
    goes-on c.args.shared.now.mode v w c.args.engine.now.search c.args.engine.now.fuel c.requires.going (idles-passes v w c.is_enough.ensures.idles)

pub begin-requires-clause-read : goal.begin-requires-clause-read
begin-requires-clause-read g c = still-seen c.args.engine.now.read c.args.worker.now.pages c.is_enough.new.worker.pages c.is_enough.ensures.keeps.pages c.requires.read

pub search_path-requires-clause-number : goal.search_path-requires-clause-number
search_path-requires-clause-number g c = subst (λ n. 0 < n) (sym (c.begin.ensures.keeps.seat.number ∙ c.is_enough.ensures.keeps.seat.number)) c.requires.number

pub returns-clause-keeps : goal.returns-clause-keeps
returns-clause-keeps g c =
    keeps-trans c.args.worker.now c.begin.new.worker c.search_path.new.worker
    (keeps-trans c.args.worker.now c.is_enough.new.worker c.begin.new.worker c.is_enough.ensures.keeps c.begin.ensures.keeps)
    c.search_path.ensures.keeps

pub returns-in_err-begin-clause-keeps : goal.returns-in_err-begin-clause-keeps
returns-in_err-begin-clause-keeps g c = keeps-trans c.args.worker.now c.is_enough.new.worker c.begin.new.worker c.is_enough.ensures.keeps c.begin.ensures.keeps

pub returns-in_err-begin-clause-err : goal.returns-in_err-begin-clause-err
returns-in_err-begin-clause-err g c = always-err c.from_residual.result (IsOff (view c.begin.new.worker.seat) c.begin.new.engine.fuel c.args.leaf.now) c.in_err-begin.ensures.err

pub returns-then-is_enough-clause-heard : goal.returns-then-is_enough-clause-heard
returns-then-is_enough-clause-heard g c = g.met.W.Watch.begins c.args.watch.now

pub returns-in_err-begin-clause-heard : goal.returns-in_err-begin-clause-heard
returns-in_err-begin-clause-heard g c = g.met.W.Watch.begins c.args.watch.now

pub returns-then-is_enough-clause-stop : goal.returns-then-is_enough-clause-stop
returns-then-is_enough-clause-stop g c = was-now (λ b. is_enough b ≡ true) (view c.is_enough.new.worker.seat) (c.is_enough.ensures.enough c.if-is_enough.true)

pub returns-in_err-begin-clause-stop : goal.returns-in_err-begin-clause-stop
returns-in_err-begin-clause-stop g c = memory-stop (view c.begin.new.worker.seat) c.from_residual.result c.from_residual.ensures.1
