use Rattle.std.proofs.Common.{◌≡◌, ◌≤ℤ◌, ◌++◌, ◌∷◌, [], ℕ, ℤ, pos, List, map, take, get_or, ◌+◌, FitsSigned, w32, w64, sym, ap, ◌∙◌, subst, rules}
use Rattle.std.proofs.lemmas.Int.{to_z-of_z}
use Rattle.std.proofs.lemmas.List.{map_more}
use Rattle.std.proofs.lemmas.List.Elements.{All-push}
use Rattle.asp_model.specs.Costs.{cost_at}
use Rattle.asp_model.specs.Places.{AreSmall}
use Rattle.asp_model.proofs.cost.costs.Goals as goal

pub loop-priority-preserved : goal.loop-priority-preserved
loop-priority-preserved c =
    let old : List ℤ = c.loop-priority.sums.items in
    let fits : FitsSigned w64 c.cost_at.result = search rules in
    let small : AreSmall (old ++ c.cost_at.result ∷ []) = All-push (λ (q : ℤ). q ≤ℤ pos 36028797018963968) old c.cost_at.result c.loop-priority.invariant.1 c.cost_at.ensures.small in
    let items : c.push.new.self.items ≡ old ++ c.cost_at.result ∷ [] = simp to_z-of_z at c.in_ok-push.ensures.items in
    let f : ℤ → ℤ = cost_at c.args.interp.now c.args.statements.now in
    let qs : List ℤ = c.args.priorities.now in
    let i : ℕ = c.loop-priority.priority-index in
    let plain = to_z-of_z w32 (get_or qs i (pos 0)) (search rules) in
    let sums : c.push.new.self.items ≡ map f (take (i + 1) qs) =
    items
    ∙ ap (λ (xs : List ℤ). xs ++ c.cost_at.result ∷ []) c.loop-priority.invariant.0
    ∙ ap (λ (q : ℤ). map f (take i qs) ++ q ∷ []) (c.cost_at.ensures.cost ∙ ap f plain)
    ∙ sym (map_more f qs i (pos 0) c.loop-priority-test.true) in
    (sums, subst AreSmall (sym items) small)
