use Rattle.std.proofs.Common.{w32, to_z, of_z, Bool, Some, None, cond, get_or, arith, ap, ◌∙◌, subst}
use Rattle.std.specs.Prelude.{ℤ, pos, ◌≤ℤ◌}
use Rattle.asp_vars.specs.Literals.{Literal}
use Rattle.std.proofs.lemmas.Int.{ints, to_z-of_z}
use Rattle.asp_loop.specs.Weighing.{counts, weigh, IsSlack}
use Rattle.asp_loop.proofs.WeighLaws.{weigh-positive, slack_more, slack_none}
use Rattle.asp_loop.proofs.weighing.slack.Goals as goal

pub returns-then-bound-le0 : goal.returns-then-bound-le0
returns-then-bound-le0 c =
    let h = weigh-positive (counts c.args.assign.now c.args.vars.now c.args.open_only) c.args.lits.now c.args.weights.now c.requires.weights in
    let t = c.if-bound-le0.true in
    omega (arith, ints, h, t)

pub returns-in-None : goal.returns-in-None
returns-in-None c =
    let q : Literal → Bool = counts c.args.assign.now c.args.vars.now c.args.open_only in
    let step = subst (λ (w : ℤ). IsSlack (pos c.loop-i.left) (cond (q (get_or c.args.lits.now c.loop-i.i c.index-lits-i.result)) w (pos 0)) None)
    c.weight_at.ensures (subst (λ (b : Bool). IsSlack (pos c.loop-i.left) (cond b (pos c.weight_at.result) (pos 0)) None)
    (c.counts-counts.ensures ∙ ap q c.index-lits-i.is) c.in-None.ensures) in
    let bits : ℤ = to_z w32 (of_z w32 c.args.bound) in
    subst (λ (n : ℤ). n ≤ℤ weigh q c.args.lits.now c.args.weights.now) (to_z-of_z w32 c.args.bound c.ranges.bound)
    (slack_none q c.args.lits.now c.args.weights.now c.loop-i.i c.index-lits-i.result (pos 0) bits c.loop-i.left c.loop-i-test.true c.requires.size c.requires.weights c.loop-i.invariant.1 step)

pub loop-i-preserved : goal.loop-i-preserved
loop-i-preserved c =
    let q : Literal → Bool = counts c.args.assign.now c.args.vars.now c.args.open_only in
    let step = subst (λ (w : ℤ). IsSlack (pos c.loop-i.left) (cond (q (get_or c.args.lits.now c.loop-i.i c.index-lits-i.result)) w (pos 0))
    (Some c.in-Some.rest)) c.weight_at.ensures (subst (λ (b : Bool). IsSlack (pos c.loop-i.left) (cond b (pos c.weight_at.result) (pos 0))
    (Some c.in-Some.rest)) (c.counts-counts.ensures ∙ ap q c.index-lits-i.is) c.in-Some.ensures) in
    slack_more q c.args.lits.now c.args.weights.now c.loop-i.i c.index-lits-i.result (pos 0) (to_z w32 (of_z w32 c.args.bound)) c.loop-i.left
    c.in-Some.rest c.loop-i-test.true c.requires.size c.loop-i.invariant.1 step
