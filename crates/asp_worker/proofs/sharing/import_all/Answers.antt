use Rattle.std.proofs.Common.{◌≡◌, ◌<◌, List, length, take, refl, sym, ap, subst, arith}
use Rattle.std.proofs.lemmas.List.{take_all}
use Rattle.asp_model.specs.declared.program.Program.{Program}
use Rattle.asp_vars.specs.declared.nogood.Nogood.{Nogood}
use Rattle.asp_log.specs.Entries.{IsEntry}
use Rattle.asp_search_laws.specs.Searching.{Searching}
use Rattle.asp_slots.specs.Shelves.{listed}
use Rattle.asp_worker.specs.Sharing.{ImportsAll, Remembers}
use Rattle.asp_worker.proofs.Replies.{always-err}
use Rattle.asp_worker.proofs.SharingLaws.{all-at, take-next, slots-only, imports-push, imports-by, forgotten-leaves, forgotten-after}
use Rattle.asp_worker.proofs.sharing.import_all.Goals as goal

pub import-requires-clause-vars : goal.import-requires-clause-vars
import-requires-clause-vars g c =
    let lt : c.loop-i.i < length (listed c.args.entries.now) = omega (arith, c.loop-i-test.true, c.len-i-end.ensures) in
    let same = slots-only (take c.loop-i.i (listed c.args.entries.now)) c.args.search.now c.loop-i.search c.loop-i.invariant in
    let e = subst (λ (p : Program). IsEntry p c.entry.result.now) (sym (ap (λ (x : Searching). x.program) same))
    (all-at (IsEntry c.args.search.now.program) (listed c.args.entries.now) c.loop-i.i c.entry.result.now c.requires.good lt c.entry.ensures) in
    e.variables

pub import-requires-clause-good : goal.import-requires-clause-good
import-requires-clause-good g c =
    let lt : c.loop-i.i < length (listed c.args.entries.now) = omega (arith, c.loop-i-test.true, c.len-i-end.ensures) in
    let same = slots-only (take c.loop-i.i (listed c.args.entries.now)) c.args.search.now c.loop-i.search c.loop-i.invariant in
    let e = subst (λ (p : Program). IsEntry p c.entry.result.now) (sym (ap (λ (x : Searching). x.program) same))
    (all-at (IsEntry c.args.search.now.program) (listed c.args.entries.now) c.loop-i.i c.entry.result.now c.requires.good lt c.entry.ensures) in
    λ _. e.shared

pub loop-i-init : goal.loop-i-init
loop-i-init g c = refl

pub loop-i-preserved : goal.loop-i-preserved
loop-i-preserved g c =
    let lt : c.loop-i.i < length (listed c.args.entries.now) = omega (arith, c.loop-i-test.true, c.len-i-end.ensures) in
    subst (λ (l : List Nogood). ImportsAll l c.args.search.now c.import.new.self) (sym (take-next (listed c.args.entries.now) c.loop-i.i c.entry.result.now lt c.entry.ensures))
    (imports-push (take c.loop-i.i (listed c.args.entries.now)) c.entry.result.now c.args.search.now c.loop-i.search c.import.new.self c.loop-i.invariant
    (imports-by c.loop-i.search c.import.new.self c.entry.result.now c.in_ok-used.used c.in_ok-used.ensures.counts c.in_ok-used.ensures.ok))

pub returns-in_err-used-clause-err : goal.returns-in_err-used-clause-err
returns-in_err-used-clause-err g c =
    always-err c.from_residual.result (Remembers c.args.search.now c.import.new.self)
    (forgotten-after (take c.loop-i.i (listed c.args.entries.now)) c.args.search.now c.loop-i.search c.import.new.self c.loop-i.invariant
    (forgotten-leaves c.loop-i.search c.import.new.self c.in_err-used.ensures.err))

pub returns-clause-ok : goal.returns-clause-ok
returns-clause-ok g c =
    let all : take c.loop-i.i (listed c.args.entries.now) ≡ (listed c.args.entries.now) = take_all c.loop-i.i (listed c.args.entries.now) (omega (arith, c.loop-i-test.false, c.len-i-end.ensures)) in
    subst (λ (l : List Nogood). ImportsAll l c.args.search.now c.loop-i.search) all c.loop-i.invariant
