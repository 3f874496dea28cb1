-- The first items of a row, which have values.
use Rattle.std.proofs.Common.{◌≡◌, ◌≢◌, ℕ, ◌<◌, Bool, true, false, eqb, List, length, set, Option, Some, refl, ap, sym, ◌∙◌, arith}
use Rattle.std.specs.List.{All}
use Rattle.std.specs.Option.{is_none}
use Rattle.std.proofs.lemmas.Bool.{eqb-true}
use Rattle.std.proofs.lemmas.Bool.Decides.{nat_tests}
use Rattle.asp_vars.specs.Literals.{F, value_of}
use Rattle.asp_weight.specs.declared.item.Item.{Item}
use Rattle.asp_weight.specs.Spoken.{item_at}
use Rattle.asp_weight.specs.Kept.{ArePassed}
use Rattle.asp_weight.proofs.SumLaws.{value_there, value_elsewhere}

pub passed_none : (a : List (Option Bool)) (row : List Item) → ArePassed a row 0
passed_none a row = record { within = omega arith; each = λ k h. absurd (omega (arith, h)) }

-- under the values with one more
pub passed_more : (a : List (Option Bool)) (v : ℕ) (t : Bool) (row : List Item) (n : ℕ) → v < length a → ArePassed a row n → ArePassed (set a v (Some t)) row n
passed_more a v t row n h p = record { within = p.within; each = λ k l. at (item_at row k).lit.var (eqb (item_at row k).lit.var v) refl (p.each k l) }
  where
    at : (u : ℕ) (b : Bool) → b ≡ eqb u v → is_none (value_of a u) ≡ false → is_none (value_of (set a v (Some t)) u) ≡ false
    at u true q e = ap is_none (ap (value_of (set a v (Some t))) (eqb-true u v (sym q)) ∙ value_there a v t h)
    at u false q e =
        let ne : u ≢ v = grind (arith, nat_tests) in
        ap is_none (value_elsewhere a v u (Some t) ne) ∙ e

-- under values that agree on the row
pub passed_alike : (a b : List (Option Bool)) (row : List Item) (n : ℕ) → All (λ i. value_of a i.lit.var ≡ value_of b i.lit.var) row → ArePassed b row n → ArePassed a row n
passed_alike a b row n same p = record {
  within = p.within;
  each = λ k l. ap is_none (same k (record { weight = 0; lit = F 0 }) (omega (arith, l, p.within))) ∙ p.each k l;
}
