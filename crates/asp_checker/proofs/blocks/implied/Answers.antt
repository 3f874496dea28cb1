use Rattle.std.proofs.Common.{◌≤◌, refl, subst, arith, ◌∙◌}
use Rattle.asp_vars.specs.Numbering.{var_count}
use Rattle.asp_checker.specs.Blocks.{IsImplied, cost_of_bound}
use Rattle.asp_checker.proofs.BlockLaws.{free_first, free_next, free_whole}
use Rattle.asp_checker.proofs.blocks.implied.Goals as goal

pub loop-at-init : goal.loop-at-init
loop-at-init c = record { same = refl; free = free_first c.args.compiled.now (cost_of_bound c.args.bound.now) c.args.values.now }

pub loop-at-preserved : goal.loop-at-preserved
loop-at-preserved c = record {
  same = c.in_default.ensures.same ∙ c.loop-at.invariant.same;
  free = free_next c.args.compiled.now (cost_of_bound c.args.bound.now) c.loop-at.values c.implied_at.new.values c.loop-at.at
      c.in_default.ensures.same c.loop-at.invariant.free c.in_default.ensures.implied;
}

pub returns-in-Some-clause-same : goal.returns-in-Some-clause-same
returns-in-Some-clause-same c = c.in-Some.ensures.same ∙ c.loop-at.invariant.same

pub returns-in-Some-clause-implied : goal.returns-in-Some-clause-implied
returns-in-Some-clause-implied c = subst (λ z. IsImplied c.args.compiled.now (cost_of_bound c.args.bound.now) z c.in-Some.lit) c.loop-at.invariant.same c.in-Some.ensures.implied

pub returns-clause-implied : goal.returns-clause-implied
returns-clause-implied c =
    let le : var_count c.args.compiled.now ≤ c.loop-at.at = omega (arith, c.loop-at-test.false, c.vars-at-end.ensures.count) in
    free_whole c.args.compiled.now (cost_of_bound c.args.bound.now) c.loop-at.values c.args.values.now c.loop-at.at le c.loop-at.invariant.same c.loop-at.invariant.free
