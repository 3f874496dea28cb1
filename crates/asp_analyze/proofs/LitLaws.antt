-- Which literals a nogood has.
use Rattle.std.proofs.Common.{◌≡◌, ◌≢◌, ℕ, suc, zero, ◌+◌, ◌<◌, ◌≤◌, Bool, true, false, not, cond, ◌&&◌, ◌||◌, eqb, List, [], ◌∷◌, ◌++◌, length, get_or, take, drop, inl, inr, ◌⊎◌, refl, sym, ap, ◌∙◌, subst, arith}
use Rattle.std.specs.List.{All}
use Rattle.std.specs.Bool.{beq}
use Rattle.std.proofs.lemmas.Bool.{false≢true}
use Rattle.std.proofs.lemmas.Bool.Decides.{nat_tests}
use Rattle.std.proofs.lemmas.List.{take_more, take-append-drop}
use Rattle.std.proofs.lemmas.List.Elements.{All-push}
use Rattle.std.proofs.lemmas.List.Folds.{list_any-append}
use Rattle.asp_vars.specs.Literals.{Literal, has_literal, literal_eq}
use Rattle.asp_vars.specs.Resolution.{without}
use Rattle.asp_vars.proofs.LiteralLaws.{same_literal}

pub eq_itself : (l : Literal) → literal_eq l l ≡ true
eq_itself l = both l.var l.truth
  where
    both : (v : ℕ) (b : Bool) → (eqb v v && beq b b) ≡ true
    both v true = grind (arith, nat_tests)
    both v false = grind (arith, nat_tests)

pub false_from : (b : Bool) → (b ≡ true → ⊥) → b ≡ false
false_from true f = absurd (f refl)
false_from false f = refl

pub differ_eq : (k l : Literal) → k ≢ l → literal_eq k l ≡ false
differ_eq k l ne = false_from (literal_eq k l) (λ q. ne (same_literal k l q))

pub eq_differ : (k l : Literal) → literal_eq k l ≡ false → k ≢ l
eq_differ k l q e = false≢true (sym q ∙ (ap (λ x. literal_eq x l) e ∙ eq_itself l))

pub or_cases : (a b : Bool) → (a || b) ≡ true → (a ≡ true) ⊎ (b ≡ true)
or_cases true b h = inl refl
or_cases false b h = inr h

pub or_left : (a b : Bool) → a ≡ true → (a || b) ≡ true
or_left true b q = refl
or_left false b q = absurd (false≢true q)

pub or_right : (a b : Bool) → b ≡ true → (a || b) ≡ true
or_right true b q = refl
or_right false b q = q

-- what holds of each literal that a nogood has holds of all, and the other way round
pub all_from : (P : Literal → Type 0) (n : List Literal) → ((l : Literal) → has_literal n l ≡ true → P l) → All P n
all_from P [] f i d h = absurd (omega arith)
all_from P (k ∷ n) f zero d h = f k (or_left (literal_eq k k) (has_literal n k) (eq_itself k))
all_from P (k ∷ n) f (suc i) d h = all_from P n (λ l g. f l (or_right (literal_eq k l) (has_literal n l) g)) i d (omega arith)

pub all_has : (P : Literal → Type 0) (n : List Literal) (l : Literal) → All P n → has_literal n l ≡ true → P l
all_has P [] l a h = absurd (false≢true h)
all_has P (k ∷ n) l a h = cases (or_cases (literal_eq k l) (has_literal n l) h) (all_has P n l (λ i d g. a (suc i) d (omega arith)))
  where
    cases : (literal_eq k l ≡ true) ⊎ (has_literal n l ≡ true) → (has_literal n l ≡ true → P l) → P l
    cases (inl q) rest = subst P (same_literal k l q) (a 0 k (omega arith))
    cases (inr g) rest = rest g

-- ---- without a literal
not_true : (b : Bool) → not b ≡ true → b ≡ false
not_true true h = absurd (false≢true h)
not_true false h = refl

pub has_without : (g : Literal) (n : List Literal) (l : Literal) → has_literal n l ≡ true → l ≢ g → has_literal (without g n) l ≡ true
has_without g [] l h ne = absurd (false≢true h)
has_without g (k ∷ n) l h ne = cases (or_cases (literal_eq k l) (has_literal n l) h) (λ m. has_without g n l m ne) (not (literal_eq k g)) refl
  where
    cases : (literal_eq k l ≡ true) ⊎ (has_literal n l ≡ true) → (has_literal n l ≡ true → has_literal (without g n) l ≡ true) →
        (b : Bool) → b ≡ not (literal_eq k g) → has_literal (cond b (k ∷ without g n) (without g n)) l ≡ true
    cases (inl q) rest true s = or_left (literal_eq k l) (has_literal (without g n) l) q
    cases (inl q) rest false s =
        let e : k ≡ l = same_literal k l q in
        absurd (false≢true (s ∙ ap not (differ_eq k g (λ z. ne (sym e ∙ z)))))
    cases (inr m) rest true s = or_right (literal_eq k l) (has_literal (without g n) l) (rest m)
    cases (inr m) rest false s = rest m

-- ---- both
has_end : (n : List Literal) (k l : Literal) → has_literal (n ++ k ∷ []) l ≡ (has_literal n l || (literal_eq k l || false))
has_end n k l = list_any-append (λ x. literal_eq x l) n (k ∷ [])

or_false : (b : Bool) → (b || false) ≡ b
or_false true = refl
or_false false = refl

-- ---- a resolvent has the other literals of both
-- ---- more literals at the end
pub has_more : (n m : List Literal) (l : Literal) → has_literal n l ≡ true → has_literal (n ++ m) l ≡ true
has_more n m l h = list_any-append (λ x. literal_eq x l) n m ∙ or_left (has_literal n l) (has_literal m l) h

pub has_last : (n : List Literal) (l : Literal) → has_literal (n ++ l ∷ []) l ≡ true
has_last n l = has_end n l l ∙ or_right (has_literal n l) (literal_eq l l || false) (or_left (literal_eq l l) false (eq_itself l))

pub has_at : (n : List Literal) (i : ℕ) (d : Literal) → i < length n → has_literal n (get_or n i d) ≡ true
has_at [] i d h = absurd (omega arith)
has_at (k ∷ n) zero d h = or_left (literal_eq k k) (has_literal n k) (eq_itself k)
has_at (k ∷ n) (suc i) d h = or_right (literal_eq k (get_or n i d)) (has_literal n (get_or n i d)) (has_at n i d (omega arith))

-- a bound of the first ones and of the next
pub below_push : (f : Literal → ℕ) (n : List Literal) (i : ℕ) (l : Literal) (a b : ℕ) → i < length n → l ≡ get_or n i l → All (λ k. f k ≤ a) (take i n) → a ≤ b → f l ≤ b →
    All (λ k. f k ≤ b) (take (i + 1) n)
below_push f n i l a b h q below le g =
    subst (λ (xs : List Literal). All (λ k. f k ≤ b) xs) (sym (take_more n i l h))
    (All-push (λ k. f k ≤ b) (take i n) (get_or n i l) (λ k d x. omega (arith, below k d x, le)) (subst (λ (k : Literal). f k ≤ b) q g))

pub has_later : (n m : List Literal) (l : Literal) → has_literal m l ≡ true → has_literal (n ++ m) l ≡ true
has_later n m l h = list_any-append (λ x. literal_eq x l) n m ∙ or_right (has_literal n l) (has_literal m l) h

pub has_append : (n m : List Literal) (l : Literal) → has_literal (n ++ m) l ≡ true → (has_literal n l ≡ true) ⊎ (has_literal m l ≡ true)
has_append n m l h = or_cases (has_literal n l) (has_literal m l) (sym (list_any-append (λ x. literal_eq x l) n m) ∙ h)

pub only_one : (k l : Literal) → has_literal (k ∷ []) l ≡ true → k ≡ l
only_one k l h = same_literal k l (elim (or_cases (literal_eq k l) false h) [ inl q ↦ q | inr f ↦ absurd (false≢true f) ])

pub has_taken : (n : ℕ) (xs : List Literal) (l : Literal) → has_literal (take n xs) l ≡ true → has_literal xs l ≡ true
has_taken n xs l h = subst (λ (ys : List Literal). has_literal ys l ≡ true) (take-append-drop n xs) (has_more (take n xs) (drop n xs) l h)
