-- Which literals a list has.
use Rattle.std.proofs.Common.{◌≡◌, ◌≢◌, ℕ, suc, zero, ◌<◌, Bool, true, false, not, cond, ◌&&◌, eqb, List, [], ◌∷◌, ◌++◌, length, get_or, inl, inr, ◌⊎◌, refl, sym, ap, ◌∙◌, subst, arith}
use Rattle.std.specs.List.{All, list_all, list_any}
use Rattle.std.specs.Bool.{beq}
use Rattle.std.proofs.lemmas.Bool.{false≢true, or_cases, or_left, or_right, and_from}
use Rattle.std.proofs.lemmas.Bool.Decides.{nat_tests}
use Rattle.std.proofs.lemmas.List.Folds.{list_any-append}
use Rattle.asp_vars.specs.Literals.{Literal, has_literal, literal_eq}
use Rattle.asp_vars.specs.Resolution.{without}
use Rattle.asp_vars.proofs.LiteralLaws.{same_literal}

pub eq_itself : (l : Literal) → literal_eq l l ≡ true
eq_itself l = both l.var l.truth
  where
    both : (v : ℕ) (b : Bool) → (eqb v v && beq b b) ≡ true
    both v true = grind (arith, nat_tests)
    both v false = grind (arith, nat_tests)

pub eq_differ : (k l : Literal) → literal_eq k l ≡ false → k ≢ l
eq_differ k l q e = false≢true (sym q ∙ (ap (λ x. literal_eq x l) e ∙ eq_itself l))

-- ---- what each literal passes
pub all_has : (P : Literal → Type 0) (n : List Literal) (l : Literal) → All P n → has_literal n l ≡ true → P l
all_has P [] l a h = absurd (false≢true h)
all_has P (k ∷ n) l a h = cases (or_cases (literal_eq k l) (has_literal n l) h) (all_has P n l (λ i d g. a (suc i) d (omega arith)))
  where
    cases : (literal_eq k l ≡ true) ⊎ (has_literal n l ≡ true) → (has_literal n l ≡ true → P l) → P l
    cases (inl q) rest = subst P (same_literal k l q) (a 0 k (omega arith))
    cases (inr g) rest = rest g

pub all_pass : (q : Literal → Bool) (n : List Literal) → ((l : Literal) → has_literal n l ≡ true → q l ≡ true) → list_all q n ≡ true
all_pass q [] f = refl
all_pass q (k ∷ n) f =
    and_from (q k) (list_all q n) (f k (or_left (literal_eq k k) (has_literal n k) (eq_itself k)))
    (all_pass q n (λ l h. f l (or_right (literal_eq k l) (has_literal n l) h)))

pub any_pass : (q : Literal → Bool) (n : List Literal) (l : Literal) → has_literal n l ≡ true → q l ≡ true → list_any q n ≡ true
any_pass q [] l h p = absurd (false≢true h)
any_pass q (k ∷ n) l h p = cases (or_cases (literal_eq k l) (has_literal n l) h) (any_pass q n l)
  where
    cases : (literal_eq k l ≡ true) ⊎ (has_literal n l ≡ true) → (has_literal n l ≡ true → q l ≡ true → list_any q n ≡ true) → list_any q (k ∷ n) ≡ true
    cases (inl e) rest = or_left (q k) (list_any q n) (ap q (same_literal k l e) ∙ p)
    cases (inr g) rest = or_right (q k) (list_any q n) (rest g p)

-- ---- more literals
pub has_more : (n m : List Literal) (l : Literal) → has_literal n l ≡ true → has_literal (n ++ m) l ≡ true
has_more n m l h = list_any-append (λ x. literal_eq x l) n m ∙ or_left (has_literal n l) (has_literal m l) h

pub has_later : (n m : List Literal) (l : Literal) → has_literal m l ≡ true → has_literal (n ++ m) l ≡ true
has_later n m l h = list_any-append (λ x. literal_eq x l) n m ∙ or_right (has_literal n l) (has_literal m l) h

pub has_append : (n m : List Literal) (l : Literal) → has_literal (n ++ m) l ≡ true → (has_literal n l ≡ true) ⊎ (has_literal m l ≡ true)
has_append n m l h = or_cases (has_literal n l) (has_literal m l) (sym (list_any-append (λ x. literal_eq x l) n m) ∙ h)

pub only_one : (k l : Literal) → has_literal (k ∷ []) l ≡ true → k ≡ l
only_one k l h = same_literal k l (elim (or_cases (literal_eq k l) false h) [ inl q ↦ q | inr f ↦ absurd (false≢true f) ])

-- ---- places
pub has_at : (n : List Literal) (i : ℕ) (d : Literal) → i < length n → has_literal n (get_or n i d) ≡ true
has_at [] i d h = absurd (omega arith)
has_at (k ∷ n) zero d h = or_left (literal_eq k k) (has_literal n k) (eq_itself k)
has_at (k ∷ n) (suc i) d h = or_right (literal_eq k (get_or n i d)) (has_literal n (get_or n i d)) (has_at n i d (omega arith))

pub has_place : (n : List Literal) (l : Literal) → has_literal n l ≡ true → (i : ℕ) × (i < length n) × ((d : Literal) → get_or n i d ≡ l)
has_place [] l h = absurd (false≢true h)
has_place (k ∷ n) l h = cases (or_cases (literal_eq k l) (has_literal n l) h) (has_place n l)
  where
    later : (i : ℕ) × (i < length n) × ((d : Literal) → get_or n i d ≡ l) → (i : ℕ) × (i < length (k ∷ n)) × ((d : Literal) → get_or (k ∷ n) i d ≡ l)
    later f = (suc f.0, omega (arith, f.1), λ d. f.2 d)

    cases : (literal_eq k l ≡ true) ⊎ (has_literal n l ≡ true) → (has_literal n l ≡ true → (i : ℕ) × (i < length n) × ((d : Literal) → get_or n i d ≡ l)) →
        (i : ℕ) × (i < length (k ∷ n)) × ((d : Literal) → get_or (k ∷ n) i d ≡ l)
    cases (inl q) rest = (0, omega arith, λ d. same_literal k l q)
    cases (inr g) rest = later (rest g)

-- ---- without a literal
pub has_without : (l : Literal) (n : List Literal) (m : Literal) → has_literal n m ≡ true → literal_eq m l ≡ false → has_literal (without l n) m ≡ true
has_without l [] m h ne = h
has_without l (k ∷ n) m h ne = cases (literal_eq k l) refl (or_cases (literal_eq k m) (has_literal n m) h) (has_without l n m)
  where
    cases : (b : Bool) → b ≡ literal_eq k l → (literal_eq k m ≡ true) ⊎ (has_literal n m ≡ true) → (has_literal n m ≡ true → literal_eq m l ≡ false → has_literal (without l n) m ≡ true) →
        has_literal (cond (not b) (k ∷ without l n) (without l n)) m ≡ true
    cases true q (inl e) rest = absurd (false≢true (sym ne ∙ (sym (ap (λ x. literal_eq x l) (same_literal k m e)) ∙ sym q)))
    cases true q (inr g) rest = rest g ne
    cases false q (inl e) rest = or_left (literal_eq k m) (has_literal (without l n) m) e
    cases false q (inr g) rest = or_right (literal_eq k m) (has_literal (without l n) m) (rest g ne)
