use Rattle.std.proofs.Common.{◌≡◌, ◌++◌, ◌∷◌, ◌+◌, [], sym, subst, arith, rules, List, ℕ}
use Rattle.std.proofs.lemmas.Grind.{common_steps}
use Rattle.asp_bound.proofs.NeededLaws.{IsCounted, counted_push, counted_more}
use Rattle.asp_bound.proofs.levels.vars_of.Goals as goal
use Rattle.asp_bound.proofs.levels.vars_of.Goals.{then-not-is_empty+in_ok-push, else-not-is_empty}

pub loop-var-preserved : goal.loop-var-preserved
loop-var-preserved c = elim c.if-not-is_empty.branch [
  | then-not-is_empty+in_ok-push w ↦ (
      let e : c.if-not-is_empty.vars.items ≡ c.loop-var.vars.items ++ c.loop-var.var ∷ [] = first_of (search rules, grind (arith, common_steps)) in
      record {
        within = grind (arith, common_steps);
        whole = grind (arith, common_steps);
        counted = subst (λ (xs : List ℕ). IsCounted xs (c.loop-var.var + 1)) (sym e) (counted_push c.loop-var.vars.items c.loop-var.var c.loop-var.invariant.counted);
      })
  | else-not-is_empty w ↦ (
      let e : c.if-not-is_empty.vars.items ≡ c.loop-var.vars.items = cc in
      record {
        within = grind (arith, common_steps);
        whole = grind (arith, common_steps);
        counted = subst (λ (xs : List ℕ). IsCounted xs (c.loop-var.var + 1)) (sym e) (counted_more c.loop-var.vars.items c.loop-var.var c.loop-var.invariant.counted);
      })
]
