use Rattle.std.proofs.Common.{◌≡◌, ℕ, Option, sym, ap, ◌∙◌, subst}
use Rattle.asp_model.specs.declared.results.Mode.TheVariants.{Enum}
use Rattle.asp_book.specs.Books.{Booked, board, with_events}
use Rattle.asp_book.specs.Replies.{taken}
use Rattle.asp_crew.proofs.FinishLaws.{fewer-next, free-now, held-taken, taken-by}
use Rattle.asp_query.specs.Turns.{ClosesAll}
use Rattle.asp_query.proofs.CloseLaws.{amid-begins, amid-ends, amid-next, asking-taken}
use Rattle.asp_query.proofs.TurnLaws.{not-enough}
use Rattle.asp_query.proofs.answer.work_off_all.Goals as goal

pub take-requires : goal.take-requires
take-requires g c = free-now (board c.leaves.book) c.leaves.invariant.amid.between.alone

pub returns-in-None-clause-leaves : goal.returns-in-None-clause-leaves
returns-in-None-clause-leaves g c = λ e.
    let now : c.take.new.self ≡ c.leaves.book = c.in_ok-take.ensures.journal ∙ ap (λ (o : Option ℕ). with_events c.leaves.book (taken 0 o)) c.in-None.is in
    subst (λ (x : Booked). ClosesAll c.args.book.now x c.leaves.search c.leaves.fuel) (sym now)
    (amid-ends c.args.book.now c.leaves.book c.leaves.search c.leaves.fuel c.leaves.invariant.amid (sym c.in_ok-take.ensures.leaf ∙ c.in-None.is))

pub work_off-requires-clause-asking : goal.work_off-requires-clause-asking
work_off-requires-clause-asking g c =
    asking-taken c.leaves.book c.take.new.self c.in-Some.leaf c.leaves.search c.leaves.fuel c.leaves.invariant.amid.asking
    (taken-by Enum c.leaves.book c.take.new.self c.in-Some.leaf c.leaves.search c.leaves.fuel _ c.leaves.invariant.amid.between.ready
    c.leaves.invariant.amid.between.alone c.in_ok-take.ensures.leaf c.in_ok-take.ensures.journal c.in-Some.is)

pub work_off-requires-clause-held : goal.work_off-requires-clause-held
work_off-requires-clause-held g c =
    held-taken Enum c.leaves.book c.take.new.self c.in-Some.leaf c.leaves.search c.leaves.fuel
    (taken-by Enum c.leaves.book c.take.new.self c.in-Some.leaf c.leaves.search c.leaves.fuel _ c.leaves.invariant.amid.between.ready
    c.leaves.invariant.amid.between.alone c.in_ok-take.ensures.leaf c.in_ok-take.ensures.journal c.in-Some.is)

pub leaves-smaller : goal.leaves-smaller
leaves-smaller g c =
    fewer-next Enum c.leaves.book c.take.new.self c.work_off.new.book c.in-Some.leaf c.leaves.search c.work_off.new.search c.leaves.fuel c.work_off.new.fuel
    (not-enough c.leaves.book c.leaves.invariant.amid.asking.unlimited)
    (taken-by Enum c.leaves.book c.take.new.self c.in-Some.leaf c.leaves.search c.leaves.fuel _ c.leaves.invariant.amid.between.ready
    c.leaves.invariant.amid.between.alone c.in_ok-take.ensures.leaf c.in_ok-take.ensures.journal c.in-Some.is)
    (c.in_ok-work_off-in-Some.ensures.leaves c.if-not-branch.false).leaves

pub leaves-preserved : goal.leaves-preserved
leaves-preserved g c = record {
  amid =
      amid-next c.args.book.now c.leaves.book c.take.new.self c.work_off.new.book c.in-Some.leaf c.leaves.search c.work_off.new.search c.leaves.fuel
      c.work_off.new.fuel c.leaves.invariant.amid
      (taken-by Enum c.leaves.book c.take.new.self c.in-Some.leaf c.leaves.search c.leaves.fuel _ c.leaves.invariant.amid.between.ready
      c.leaves.invariant.amid.between.alone c.in_ok-take.ensures.leaf c.in_ok-take.ensures.journal c.in-Some.is)
      (c.in_ok-work_off-in-Some.ensures.leaves c.if-not-branch.false);
  heard = g.met.W.Watch.goes_on c.args.watch.now c.leaves.watch c.work_off.new.watch c.leaves.invariant.heard c.work_off.ensures.heard;
}

pub leaves-init : goal.leaves-init
leaves-init g c = record {
  amid = amid-begins c.args.book.now c.args.search.now c.args.fuel.now c.requires.asking c.requires.alone;
  heard = g.met.W.Watch.begins c.args.watch.now;
}
