use Rattle.std.proofs.Common.{◌≡◌, w32, to_z, of_z, Bool, true, Some, None, cond, get_or, arith, ap, ◌∙◌, subst}
use Rattle.std.specs.Prelude.{ℤ, pos, ◌≤ℤ◌, int_le}
use Rattle.asp_vars.specs.Literals.{Literal}
use Rattle.std.proofs.lemmas.Int.{to_z-of_z}
use Rattle.asp_loop.proofs.WeighLaws.{weigh-positive, slack_more, slack_none, slack_whole}
use Rattle.asp_loop.specs.Weighing.{weigh, IsSlack, is_kept}
use Rattle.asp_found.proofs.MarkLaws.{low_from, reach_low, reach_yes, reach_no}
use Rattle.asp_checker.proofs.loops.reaches.Goals as goal

pub returns-then-bound-le0 : goal.returns-then-bound-le0
returns-then-bound-le0 c =
    let q : Literal → Bool = is_kept c.args.vars.now c.args.nogood.now in
    let low : int_le c.args.bound (pos 0) ≡ true = subst (λ (b : ℤ). int_le b (pos 0) ≡ true) (to_z-of_z w32 c.args.bound c.ranges.bound) c.if-bound-le0.true in
    reach_low c.args.bound (weigh q c.args.lits.now c.args.weights.now) (low_from c.args.bound low) (weigh-positive q c.args.lits.now c.args.weights.now c.requires.weights)

pub returns-in-None : goal.returns-in-None
returns-in-None c =
    let q : Literal → Bool = is_kept c.args.vars.now c.args.nogood.now in
    let step = subst (λ (w : ℤ). IsSlack (pos c.loop-i.left) (cond (q (get_or c.args.lits.now c.loop-i.i c.index-lits-i.result)) w (pos 0)) None)
    c.weight_at.ensures (subst (λ (b : Bool). IsSlack (pos c.loop-i.left) (cond b (pos c.weight_at.result) (pos 0)) None)
    (c.is_kept-counts.ensures ∙ ap q c.index-lits-i.is) c.in-None.ensures) in
    let bits : ℤ = to_z w32 (of_z w32 c.args.bound) in
    reach_yes c.args.bound (weigh q c.args.lits.now c.args.weights.now) (subst (λ (n : ℤ). n ≤ℤ weigh q c.args.lits.now c.args.weights.now) (to_z-of_z w32 c.args.bound c.ranges.bound)
    (slack_none q c.args.lits.now c.args.weights.now c.loop-i.i c.index-lits-i.result (pos 0) bits c.loop-i.left c.loop-i-test.true c.requires.places c.requires.weights c.loop-i.invariant.1 step))

pub loop-i-preserved : goal.loop-i-preserved
loop-i-preserved c =
    let q : Literal → Bool = is_kept c.args.vars.now c.args.nogood.now in
    let step = subst (λ (w : ℤ). IsSlack (pos c.loop-i.left) (cond (q (get_or c.args.lits.now c.loop-i.i c.index-lits-i.result)) w (pos 0))
    (Some c.in-Some.rest)) c.weight_at.ensures (subst (λ (b : Bool). IsSlack (pos c.loop-i.left) (cond b (pos c.weight_at.result) (pos 0))
    (Some c.in-Some.rest)) (c.is_kept-counts.ensures ∙ ap q c.index-lits-i.is) c.in-Some.ensures) in
    slack_more q c.args.lits.now c.args.weights.now c.loop-i.i c.index-lits-i.result (pos 0) (to_z w32 (of_z w32 c.args.bound)) c.loop-i.left
    c.in-Some.rest c.loop-i-test.true c.requires.places c.loop-i.invariant.1 step

pub returns : goal.returns
returns c =
    let q : Literal → Bool = is_kept c.args.vars.now c.args.nogood.now in
    let whole = slack_whole q c.args.lits.now c.args.weights.now c.loop-i.i (to_z w32 (of_z w32 c.args.bound)) c.loop-i.left
    (omega (arith, c.loop-i-test.false)) c.requires.places c.loop-i.invariant.0 c.loop-i.invariant.1 in
    let left = subst (λ (n : ℤ). IsSlack n (weigh q c.args.lits.now c.args.weights.now) (Some c.loop-i.left)) (to_z-of_z w32 c.args.bound c.ranges.bound) whole in
    reach_no c.args.bound (weigh q c.args.lits.now c.args.weights.now) c.loop-i.left left.0 left.1
