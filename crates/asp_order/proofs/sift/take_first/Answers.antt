use Rattle.std.proofs.Common.{◌≡◌, ℕ, List, false, [], ◌∷◌, ◌++◌, ◌∙◌, set, ap, sym, subst, refl, arith}
use Rattle.std.specs.Vec.{vec_len}
use Rattle.std.proofs.lemmas.Bool.{eqb-true}
use Rattle.std.proofs.lemmas.List.{nil_from_length}
use Rattle.asp_order.specs.Sifting.{IsPlaced}
use Rattle.asp_order.proofs.PlacedLaws.{placed_none}
use Rattle.asp_order.proofs.sift.take_first.Goals as goal

pub returns-in_err-last-clause-none : goal.returns-in_err-last-clause-none
returns-in_err-last-clause-none c =
    let gone = c.in_err-last.ensures.cases in
    rw c.from_residual.ensures (
      nil_from_length c.args.items.now.items (omega (arith, gone.0, c.args.items.now.ok.0)),
      nil_from_length c.pop.new.self.items (omega (arith, gone.1, c.pop.new.self.ok.0)),
      refl,
    )

pub returns-then-is_empty-clause-placed : goal.returns-then-is_empty-clause-placed
returns-then-is_empty-clause-placed c m p =
    let zero : vec_len c.pop.new.self ≡ 0 = eqb-true (vec_len c.pop.new.self) 0 (sym c.is_empty.ensures ∙ c.if-is_empty.true) in
    let nil : c.pop.new.self.items ≡ [] = nil_from_length c.pop.new.self.items (omega (arith, zero, c.pop.new.self.ok.0)) in
    let one : c.args.items.now.items ≡ c.in_ok-last.last ∷ [] = c.in_ok-last.ensures.items ∙ ap (λ xs. xs ++ c.in_ok-last.last ∷ []) nil in
    subst (λ (xs : List ℕ). IsPlaced (set m c.in_ok-last.last false) xs c.args.places.now) (sym nil)
    (placed_none m c.in_ok-last.last c.args.places.now (subst (λ (xs : List ℕ). IsPlaced m xs c.args.places.now) one p))
