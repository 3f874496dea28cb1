-- The literals that are gathered for a nogood.
use Rattle.std.proofs.Common.{◌≡◌, ℕ, ◌+◌, ◌<◌, ◌≤◌, Bool, true, false, cond, leb, List, [], ◌∷◌, ◌++◌, length, take, drop, get_or, Option, sym, ap, ◌∙◌, arith}
use Rattle.std.proofs.lemmas.Bool.Decides.{nat_tests}
use Rattle.std.proofs.lemmas.List.{drop_more, append_assoc}
use Rattle.std.proofs.lemmas.List.Sums.{sum_by_more}
use Rattle.asp_vars.specs.Literals.{Literal, holds_in}
use Rattle.asp_weight.specs.declared.item.Item.{Item}
use Rattle.asp_weight.specs.Rows.{on, weight_if, total_of}
use Rattle.asp_weight.specs.Spoken.{held, gathered}

-- ---- the loop
pub gather_step : (side : Bool) (a : List (Option Bool)) (need sum : ℕ) (row : List Item) (i w : ℕ) (x : Item) (lits more all : List Literal) → sum < need → i < length row → x ≡ get_or row i x →
    lits ++ gathered side a need sum (drop i row) ≡ all → more ≡ lits ++ held side a x → w ≡ weight_if (holds_in a) side x →
    more ++ gathered side a need (sum + w) (drop (i + 1) row) ≡ all
gather_step side a need sum row i w x lits more all l h is e m f =
    ap (λ n. n ++ gathered side a need (sum + w) (drop (i + 1) row)) m
    ∙ (append_assoc lits (held side a x) (gathered side a need (sum + w) (drop (i + 1) row))
    ∙ (ap (λ n. lits ++ (held side a x ++ gathered side a need (sum + n) (drop (i + 1) row))) f
    ∙ (ap (λ b. lits ++ cond b [] (held side a x ++ gathered side a need (sum + weight_if (holds_in a) side x) (drop (i + 1) row))) (sym (above need sum l))
    ∙ (ap (λ y. lits ++ gathered side a need sum (y ∷ drop (i + 1) row)) is
    ∙ (ap (λ xs. lits ++ gathered side a need sum xs) (sym (drop_more row i x h)) ∙ e)))))
  where
    above : (m n : ℕ) → n < m → leb m n ≡ false
    above m n h = grind (arith, nat_tests)

pub weight_if-le : (t : Literal → Bool) (side : Bool) (i : Item) → weight_if t side i ≤ i.weight
weight_if-le t side i = cases (t (on side i.lit))
  where
    cases : (b : Bool) → cond b i.weight 0 ≤ i.weight
    cases true = omega arith
    cases false = omega arith

pub gather_small : (side : Bool) (a : List (Option Bool)) (start sum : ℕ) (row : List Item) (i w : ℕ) (x : Item) → i < length row → x ≡ get_or row i x → w ≡ weight_if (holds_in a) side x →
    sum ≤ start + total_of (take i row) → sum + w ≤ start + total_of (take (i + 1) row)
gather_small side a start sum row i w x h is f l =
    omega (arith, f, weight_if-le (holds_in a) side x, l, sum_by_more (λ (y : Item). y.weight) row i x h, ap (λ (y : Item). y.weight) is)
