-- One more step of the loops that fill the tables.
use Rattle.std.proofs.Common.{◌≡◌, ℕ, suc, ◌+◌, ◌<◌, cond, eqb, List, [], ◌∷◌, ◌++◌, length, get_or, set, sym, ap, ◌∙◌, arith, inl, inr}
use Rattle.std.proofs.lemmas.Bool.{cases_eq, cases_lt, eq-eqb, ne_eqb}
use Rattle.std.proofs.lemmas.List.{get_or_append_left, get_or-set_other, get_or-set_same, get_or_push}
use Rattle.asp_equal.specs.Copies.{least}

-- ---- a table that grows by one
pub table_push : (f : ℕ → ℕ) (xs : List ℕ) (y n : ℕ) → length xs ≡ n → ((a : ℕ) → a < n → get_or xs a 0 ≡ f a) → y ≡ f n → (a : ℕ) → a < n + 1 → get_or (xs ++ y ∷ []) a 0 ≡ f a
table_push f xs y n count h e a lt = elim (cases_lt a n) [
  | inl low ↦ get_or_append_left xs (y ∷ []) 0 a (omega (arith, count, low)) ∙ h a low
  | inr high ↦ let same : n ≡ a = omega arith in get_or_push xs y 0 a (count ∙ same) ∙ e ∙ ap f same
]

-- ---- what is written over
set_cases : (xs : List ℕ) (i y r : ℕ) → r < length xs → get_or (set xs i y) r 0 ≡ cond (eqb i r) y (get_or xs r 0)
set_cases xs i y r lt = elim (cases_eq i r) [
  | inl e ↦ ap (λ k. get_or (set xs k y) r 0) e ∙ get_or-set_same xs r y 0 lt ∙ sym (ap (λ b. cond b y (get_or xs r 0)) (eq-eqb i r e))
  | inr e ↦ get_or-set_other xs i r y 0 (λ s. e (sym s)) ∙ sym (ap (λ b. cond b y (get_or xs r 0)) (ne_eqb i r e))
]

pub lower_step : (f : ℕ → ℕ) (table : List ℕ) (k r : ℕ) → r < length table → least f r k (get_or (set table (f k) k) r 0) ≡ least f r (suc k) (get_or table r 0)
lower_step f table k r lt = ap (least f r k) (set_cases table (f k) k r lt)
