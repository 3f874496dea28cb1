use Rattle.std.proofs.Common.{◌∙◌, List, ap, refl, sym, subst}
use Rattle.std.proofs.lemmas.List.{take_all}
use Rattle.asp_vars.specs.Literals.{Literal, value_of}
use Rattle.asp_checker.specs.Chasing.{AreTakenBack}
use Rattle.asp_checker.proofs.WeightLaws.{within-then}
use Rattle.asp_checker.proofs.ChaseLaws.{taken_next}
use Rattle.asp_checker.proofs.root.undo.Goals as goal

pub loop-lit-init : goal.loop-lit-init
loop-lit-init c = record { size = refl; within = λ v b e. e; none = tt }

pub loop-lit-preserved : goal.loop-lit-preserved
loop-lit-preserved c = record {
  size = c.take_back.ensures.size ∙ c.loop-lit.invariant.size;
  within = within-then c.take_back.new.values c.loop-lit.values c.args.values.now c.take_back.ensures.within c.loop-lit.invariant.within;
  none = taken_next c.loop-lit.values c.take_back.new.values c.args.trail.now c.loop-lit.lit-index c.lit-item.result c.loop-lit-test.true
      c.lit-item.is c.take_back.ensures.within c.loop-lit.invariant.none
      (ap (value_of c.take_back.new.values) (sym c.var.ensures) ∙ c.take_back.ensures.none);
}

pub returns-clause-none : goal.returns-clause-none
returns-clause-none c = subst (λ (m : List Literal). AreTakenBack c.loop-lit.values m) (take_all c.loop-lit.lit-index c.args.trail.now c.loop-lit-test.false) c.loop-lit.invariant.none
