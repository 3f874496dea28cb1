-- The order of sets: along a loop over two lists, and as the order by the least difference.
use Rattle.std.proofs.Common.{◌≡◌, ℕ, zero, suc, ◌<◌, min, eqb, List, [], ◌∷◌, length, drop, refl, sym, ap, ◌∙◌, subst, inl, inr, ◌⊎◌, arith, Ordering}
use Rattle.std.specs.declared.cmp.Ordering.TheVariants.{Less, Equal, Greater}
use Rattle.std.specs.List.{AllByRecursion}
use Rattle.std.specs.Ordering.{nat_cmp, is_eq, ordering_reverse}
use Rattle.std.specs.Cmp.Lexicographic.{same_text}
use Rattle.std.proofs.lemmas.Bool.{cases_order, false≢true, or_left, or_from, ne_eqb, eq-eqb}
use Rattle.std.proofs.lemmas.Bool.Decides.{nat_tests}
use Rattle.asp_model.specs.Sets.{Atoms, IsAscending, has, set_cmp, IsBefore}
use Rattle.asp_model.specs.Orders.{sets_tie, sets_total}
use Rattle.asp_model.proofs.SetLaws.{has-below}
use Rattle.asp_model.proofs.SubsetLaws.{lacks_first, both_first}

pub set_cmp-end : (xs ys : List ℕ) (i : ℕ) → i ≡ min (length xs) (length ys) → set_cmp (drop i xs) (drop i ys) ≡ nat_cmp (length xs) (length ys)
set_cmp-end [] [] i e = grind (arith, nat_tests)
set_cmp-end [] (y ∷ ys) i e = grind (arith, nat_tests)
set_cmp-end (x ∷ xs) [] i e = grind (arith, nat_tests)
set_cmp-end (x ∷ xs) (y ∷ ys) zero e = absurd (omega arith)
set_cmp-end (x ∷ xs) (y ∷ ys) (suc i) e = grind (arith, nat_tests, set_cmp-end xs ys i (omega arith))

-- ---- the computed order is the order by the least difference
first_differs : (a b : ℕ) (S T : Atoms) → AllByRecursion (λ c. a < c) S → AllByRecursion (λ c. b < c) T → b < a → IsBefore (a ∷ S) (b ∷ T)
first_differs a b S T s t lt = (
  b,
  or_left (eqb b b) (has T b) (eq-eqb b b refl),
  or_from (eqb a b) (has S b) (ne_eqb a b (λ e. omega arith)) (has-below a b S s (omega arith)),
  λ c less. or_from (eqb a c) (has S c) (ne_eqb a c (λ e. omega arith)) (has-below a c S s (omega arith))
      ∙ sym (or_from (eqb b c) (has T c) (ne_eqb b c (λ e. omega arith)) (has-below b c T t (omega arith))),
)

first_same : (a b : ℕ) (S T : Atoms) → AllByRecursion (λ c. b < c) T → a ≡ b → IsBefore S T → IsBefore (a ∷ S) (b ∷ T)
first_same a b S T t same before =
    let P : ℕ → Type 0 = λ x. IsBefore (x ∷ S) (b ∷ T) in subst P (sym same) (both_first b S T t before)

nothing_first : (b : ℕ) (T : Atoms) → AllByRecursion (λ c. b < c) T → IsBefore [] (b ∷ T)
nothing_first b T t = lacks_first b [] T tt t

pub before_from_cmp : (S T : Atoms) → IsAscending S → IsAscending T → set_cmp S T ≡ Less → IsBefore S T
before_from_cmp [] [] s t e = absurd (cc)
before_from_cmp [] (b ∷ T) s t e = nothing_first b T t.0
before_from_cmp (a ∷ S) [] s t e = absurd (cc)
before_from_cmp (a ∷ S) (b ∷ T) s t e = elim (cases_order a b) [
  | inl same ↦ first_same a b S T t.0 same (before_from_cmp S T s.1 t.1 (tie same))
  | inr o ↦ elim o [ inl lt ↦ absurd (greater lt) | inr lt ↦ first_differs a b S T s.0 t.0 lt ]
]
  where
    tie : a ≡ b → set_cmp S T ≡ Less
    tie same = grind (arith, nat_tests, e)

    greater : a < b → ⊥
    greater lt = grind (arith, nat_tests, e)

pub not_both : (S T : Atoms) → IsBefore S T → IsBefore T S → ⊥
not_both S T s t = elim (cases_order s.0 t.0) [
  | inl same ↦ false≢true (sym s.2 ∙ ap (has S) same ∙ t.1)
  | inr o ↦ elim o [
    | inl lt ↦ false≢true (sym s.2 ∙ sym (t.3 s.0 lt) ∙ s.1)
    | inr lt ↦ false≢true (sym t.2 ∙ sym (s.3 t.0 lt) ∙ t.1)
  ]
]

pub not_itself : (S T : Atoms) → S ≡ T → IsBefore S T → ⊥
not_itself S T same s = false≢true (sym s.2 ∙ ap (λ U. has U s.0) same ∙ s.1)

pub cmp_from_before : (S T : Atoms) → IsAscending S → IsAscending T → IsBefore S T → set_cmp S T ≡ Less
cmp_from_before S T s t before = by_result (set_cmp S T) refl
  where
    by_result : (o : Ordering) → set_cmp S T ≡ o → o ≡ Less
    by_result Less e = refl
    by_result Equal e = absurd (not_itself S T (same_text S T (sym (sets_tie S T ∙ ap is_eq e))) before)
    by_result Greater e = absurd (not_both S T before (before_from_cmp T S t s (sets_total.antisymm T S ∙ ap ordering_reverse e)))

pub one_of_three : (S T : Atoms) → IsAscending S → IsAscending T → IsBefore S T ⊎ ((S ≡ T) ⊎ IsBefore T S)
one_of_three S T s t = by_result (set_cmp S T) refl
  where
    by_result : (o : Ordering) → set_cmp S T ≡ o → IsBefore S T ⊎ ((S ≡ T) ⊎ IsBefore T S)
    by_result Less e = inl (before_from_cmp S T s t e)
    by_result Equal e = inr (inl (same_text S T (sym (sets_tie S T ∙ ap is_eq e))))
    by_result Greater e = inr (inr (before_from_cmp T S t s (sets_total.antisymm T S ∙ ap ordering_reverse e)))
