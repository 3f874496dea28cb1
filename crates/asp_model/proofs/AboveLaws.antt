-- The first cost behind another.
use Rattle.std.proofs.Common.{◌≡◌, ℕ, zero, suc, not, List, [], ◌∷◌, length, get_or, set, ℤ, pos, ◌+ℤ◌, Some, Ordering, refl, sym, ap, ◌∙◌, arith}
use Rattle.std.specs.declared.cmp.Ordering.TheVariants.{Less, Equal, Greater}
use Rattle.std.specs.Ordering.{int_cmp, is_lt, ordering_reverse, ordering_then}
use Rattle.std.specs.Cmp.{int_cmp_total}
use Rattle.std.specs.Cmp.Lexicographic.{slice_cmp}
use Rattle.std.proofs.lemmas.Int.{ints}
use Rattle.asp_model.specs.Costs.{betters, just_above, raised}

-- the last sum is written over
pub raised-set : (c : List ℤ) (n : ℕ) (d : ℤ) → length c ≡ suc n → raised c ≡ set c n (get_or c n d +ℤ pos 1)
raised-set [] n d e = absurd (omega (arith, e))
raised-set (q ∷ []) zero d e = refl
raised-set (q ∷ []) (suc n) d e = absurd (omega (arith, e))
raised-set (q ∷ r ∷ c) zero d e = absurd (omega (arith, e))
raised-set (q ∷ r ∷ c) (suc n) d e = ap (λ (xs : List ℤ). q ∷ xs) (raised-set (r ∷ c) n d (omega (arith, e)))

pub just_above-set : (c : List ℤ) (n : ℕ) (d : ℤ) → length c ≡ suc n → just_above c ≡ Some (set c n (get_or c n d +ℤ pos 1))
just_above-set [] n d e = absurd (omega (arith, e))
just_above-set (q ∷ c) n d e = ap (λ (xs : List ℤ). Some xs) (raised-set (q ∷ c) n d e)

-- ---- what comes before it
last-betters : (q r : ℤ) → is_lt (ordering_then (int_cmp r (q +ℤ pos 1)) Equal) ≡ not (is_lt (ordering_then (int_cmp q r) Equal))
last-betters q r = grind (arith, ints)

first-decides : (o p x y : Ordering) → p ≡ ordering_reverse o → is_lt x ≡ not (is_lt y) → is_lt (ordering_then o x) ≡ not (is_lt (ordering_then p y))
first-decides Less p x y e h = sym (ap (λ z. not (is_lt (ordering_then z y))) e)
first-decides Equal p x y e h = h ∙ sym (ap (λ z. not (is_lt (ordering_then z y))) e)
first-decides Greater p x y e h = sym (ap (λ z. not (is_lt (ordering_then z y))) e)

pub raised-betters : (q : ℤ) (c d : List ℤ) → length d ≡ length (q ∷ c) → betters d (raised (q ∷ c)) ≡ not (betters (q ∷ c) d)
raised-betters q [] [] e = absurd (omega (arith, e))
raised-betters q [] (r ∷ []) e = last-betters q r
raised-betters q [] (r ∷ s ∷ d) e = absurd (omega (arith, e))
raised-betters q (p ∷ c) [] e = absurd (omega (arith, e))
raised-betters q (p ∷ c) (r ∷ d) e =
    first-decides (int_cmp r q) (int_cmp q r) (slice_cmp int_cmp d (raised (p ∷ c))) (slice_cmp int_cmp (p ∷ c) d) (int_cmp_total.antisymm q r) (raised-betters p c d (omega (arith, e)))
