use Rattle.std.proofs.Common.{List, [], ◌∷◌, sym, ap, ◌∙◌, subst}
use Rattle.std.specs.Prelude.{IsTrue}
use Rattle.asp_vars.specs.Conflicts.{has_all}
use Rattle.asp_vars.specs.Entailment.{HitsOnly}
use Rattle.asp_vars.specs.Literals.{Literal}
use Rattle.asp_path.specs.Trees.{cube_of}
use Rattle.asp_core.specs.declared.event.Event.TheVariants as event
use Rattle.asp_core.specs.Boards.{is_excused}
use Rattle.asp_book.specs.Books.{board, with_events}
use Rattle.asp_crew.specs.declared.leaf.Left.{Left}
use Rattle.asp_crew.specs.Running.{Ends}
use Rattle.asp_crew.proofs.StepLaws.{cube-entered}
use Rattle.asp_crew.proofs.FinishLaws.{closes, closing-within, opens-enough, opens-unpaid}
use Rattle.asp_crew.proofs.leaf.work_off.Goals as goal

pub close-requires-clause-within : goal.close-requires-clause-within
close-requires-clause-within g c =
    let ends = subst (λ (o : Left). Ends c.args.mode c.args.book.now c.run.new.book c.enter.new.self c.run.new.search c.run.new.fuel o) c.in-Closed.is c.in_ok-nogood.ensures.ends in
    subst (λ (k : List Literal). IsTrue (has_all (cube_of (board c.run.new.book).nodes c.args.leaf) k)) (sym c.as_slice-in-Closed.ensures.value)
    (closing-within c.args.mode c.args.book.now c.run.new.book c.args.leaf c.as_slice.result.now c.in-Closed.nogood c.enter.new.self c.run.new.search
    c.run.new.fuel ends (c.as_slice.ensures.value ∙ c.in_ok-cube.ensures.value)
    (cube-entered c.args.search.now c.enter.new.self c.as_slice.result.now c.in_ok-enter.ensures.ok))

pub close-requires-clause-settled : goal.close-requires-clause-settled
close-requires-clause-settled g c =
    let ends = subst (λ (o : Left). Ends c.args.mode c.args.book.now c.run.new.book c.enter.new.self c.run.new.search c.run.new.fuel o) c.in-Closed.is c.in_ok-nogood.ensures.ends in
    subst (λ (k : List Literal). HitsOnly (board c.run.new.book).task.program (is_excused (board c.run.new.book)) k) (sym c.as_slice-in-Closed.ensures.value)
    (ends.over.1 c.as_slice.result.now (cube-entered c.args.search.now c.enter.new.self c.as_slice.result.now c.in_ok-enter.ensures.ok)).1

pub returns-in-Closed-clause-leaves : goal.returns-in-Closed-clause-leaves
returns-in-Closed-clause-leaves g c =
    let ends = subst (λ (o : Left). Ends c.args.mode c.args.book.now c.run.new.book c.enter.new.self c.run.new.search c.run.new.fuel o) c.in-Closed.is c.in_ok-nogood.ensures.ends in
    closes c.args.mode c.args.book.now c.run.new.book c.close.new.self c.args.leaf c.as_slice.result.now c.in-Closed.nogood c.enter.new.self
    c.run.new.search c.run.new.fuel ends c.requires.held (c.as_slice.ensures.value ∙ c.in_ok-cube.ensures.value)
    (cube-entered c.args.search.now c.enter.new.self c.as_slice.result.now c.in_ok-enter.ensures.ok)
    (c.in_ok-close-in-Closed.ensures.ok ∙ ap (λ (k : List Literal). with_events c.run.new.book (event.Close 0 c.args.leaf k ∷ [])) c.as_slice-in-Closed.ensures.value)

pub returns-in-Enough-clause-leaves : goal.returns-in-Enough-clause-leaves
returns-in-Enough-clause-leaves g c =
    opens-enough c.args.mode c.args.book.now c.run.new.book c.release.new.self c.args.leaf c.as_slice.result.now c.enter.new.self c.run.new.search
    c.run.new.fuel c.requires.held (c.as_slice.ensures.value ∙ c.in_ok-cube.ensures.value)
    (cube-entered c.args.search.now c.enter.new.self c.as_slice.result.now c.in_ok-enter.ensures.ok) c.release.ensures
    (subst (λ (o : Left). Ends c.args.mode c.args.book.now c.run.new.book c.enter.new.self c.run.new.search c.run.new.fuel o) c.in-Enough.is c.in_ok-nogood.ensures.ends)

pub returns-clause-leaves : goal.returns-clause-leaves
returns-clause-leaves g c =
    opens-unpaid c.args.mode c.args.book.now c.run.new.book c.release-in-Unpaid.new.self c.args.leaf c.as_slice.result.now c.enter.new.self
    c.run.new.search c.run.new.fuel c.requires.held (c.as_slice.ensures.value ∙ c.in_ok-cube.ensures.value)
    (cube-entered c.args.search.now c.enter.new.self c.as_slice.result.now c.in_ok-enter.ensures.ok) c.release-in-Unpaid.ensures c.in-Unpaid.conflict
    (subst (λ (o : Left). Ends c.args.mode c.args.book.now c.run.new.book c.enter.new.self c.run.new.search c.run.new.fuel o) c.in-Unpaid.is c.in_ok-nogood.ensures.ends)

pub returns-in_err-cube-clause-heard : goal.returns-in_err-cube-clause-heard
returns-in_err-cube-clause-heard g c = g.met.W.Watch.begins c.args.watch.now

pub returns-in_err-enter-clause-heard : goal.returns-in_err-enter-clause-heard
returns-in_err-enter-clause-heard g c = g.met.W.Watch.begins c.args.watch.now
