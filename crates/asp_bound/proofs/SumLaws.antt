-- Sums over the variables.
use Rattle.std.proofs.Common.{◌≡◌, ◌≢◌, ℕ, zero, suc, ◌<◌, ◌≤◌, Bool, true, false, cond, eqb, List, [], ◌∷◌, ℤ, pos, ◌+ℤ◌, ◌≤ℤ◌, refl, sym, ap, ◌∙◌, subst, inl, inr, arith}
use Rattle.std.specs.List.{AllByRecursion}
use Rattle.std.proofs.lemmas.Int.{ints}
use Rattle.std.proofs.lemmas.Bool.{cases_eq}
use Rattle.std.proofs.lemmas.Bool.Decides.{nat_tests}
use Rattle.asp_model.specs.Sets.{Atoms}
use Rattle.asp_vars.specs.Literals.{Literal, T, F, literal_eq}
use Rattle.asp_vars.specs.Numbering.{literal_in}
use Rattle.asp_bound.specs.Optimism.{sum_to, weight_in}
use Rattle.asp_bound.specs.Definition.{weight_that}

pub sum_to-same : (f g : ℕ → ℤ) (n : ℕ) → ((v : ℕ) → 0 < v → v ≤ n → f v ≡ g v) → sum_to f n ≡ sum_to g n
sum_to-same f g zero h = refl
sum_to-same f g (suc n) h =
    let before : sum_to f n ≡ sum_to g n = sum_to-same f g n (λ v a b. h v a (omega arith)) in
    let here : f (suc n) ≡ g (suc n) = h (suc n) (omega arith) (omega arith) in
    cc

pub sum_to-le : (f g : ℕ → ℤ) (n : ℕ) → ((v : ℕ) → 0 < v → v ≤ n → f v ≤ℤ g v) → sum_to f n ≤ℤ sum_to g n
sum_to-le f g zero h = omega (arith, ints)
sum_to-le f g (suc n) h =
    let before : sum_to f n ≤ℤ sum_to g n = sum_to-le f g n (λ v a b. h v a (omega arith)) in
    let here : f (suc n) ≤ℤ g (suc n) = h (suc n) (omega arith) (omega arith) in
    omega (arith, ints)

pub sum_to-add : (f g : ℕ → ℤ) (n : ℕ) → sum_to (λ v. f v +ℤ g v) n ≡ sum_to f n +ℤ sum_to g n
sum_to-add f g zero = refl
sum_to-add f g (suc n) = omega (arith, ints, sum_to-add f g n)

pub sum_to-zero : (f : ℕ → ℤ) (n : ℕ) → ((v : ℕ) → f v ≡ pos 0) → sum_to f n ≡ pos 0
sum_to-zero f zero h = refl
sum_to-zero f (suc n) h = omega (arith, ints, sum_to-zero f n h, h (suc n))

-- two sums that differ at one place
pub sum_to-at : (f g : ℕ → ℤ) (n u : ℕ) → 0 < u → u ≤ n → ((v : ℕ) → v ≢ u → f v ≡ g v) → sum_to f n +ℤ g u ≡ sum_to g n +ℤ f u
sum_to-at f g zero u a b h = absurd (omega arith)
sum_to-at f g (suc n) u a b h = elim (cases_eq u (suc n)) [
  | inl e ↦ (
      let before : sum_to f n ≡ sum_to g n = sum_to-same f g n (λ v i k. h v (λ q. absurd (omega arith))) in
      let P : ℕ → Type 0 = λ k. sum_to f (suc n) +ℤ g k ≡ sum_to g (suc n) +ℤ f k in
      subst P (sym e) (omega (arith, ints, before)))
  | inr ne ↦ (
      let within : u ≤ n = omega arith in
      let here : f (suc n) ≡ g (suc n) = h (suc n) (λ q. absurd (omega arith)) in
      omega (arith, ints, sum_to-at f g n u a within h, here))
]

pub sum_to-one : (f : ℕ → ℤ) (n u : ℕ) → 0 < u → u ≤ n → ((v : ℕ) → v ≢ u → f v ≡ pos 0) → sum_to f n ≡ f u
sum_to-one f n u a b h = omega (arith, ints, sum_to-at f (λ v. pos 0) n u a b h, sum_to-zero (λ v. pos 0) n (λ v. refl))

-- ---- weights of the literals that pass a test
abbrev pub picked_by : (Literal → Bool) → (Literal → ℤ) → ℕ → ℤ
picked_by t w v = cond (t (T v)) (w (T v)) (pos 0) +ℤ cond (t (F v)) (w (F v)) (pos 0)

-- The literals' variables are from 1 to n.
abbrev pub AreVars : Atoms → ℕ → List (ℤ × ℤ) → Type 0
AreVars atoms n items = AllByRecursion (λ i. (0 < (literal_in atoms i.0).var) × ((literal_in atoms i.0).var ≤ n)) items

-- an item's weight, at its literal
abbrev one : Literal → ℤ → Literal → ℤ
one k w l = cond (literal_eq k l) w (pos 0)

cond-add : (b : Bool) (x y : ℤ) → cond b (x +ℤ y) (pos 0) ≡ cond b x (pos 0) +ℤ cond b y (pos 0)
cond-add true x y = refl
cond-add false x y = refl

picked_by-cons : (t : Literal → Bool) (w z : Literal → ℤ) (v : ℕ) → picked_by t (λ l. w l +ℤ z l) v ≡ picked_by t w v +ℤ picked_by t z v
picked_by-cons t w z v = omega (arith, ints, cond-add (t (T v)) (w (T v)) (z (T v)), cond-add (t (F v)) (w (F v)) (z (F v)))

cond-none : (b : Bool) → cond b (pos 0) (pos 0) ≡ pos 0
cond-none true = refl
cond-none false = refl

off : (k : Literal) (v : ℕ) (b : Bool) → v ≢ k.var → literal_eq k (record { var = v; truth = b }) ≡ false
off k v b ne = grind (arith, nat_tests)

picked_by-off : (t : Literal → Bool) (k : Literal) (w : ℤ) (v : ℕ) → v ≢ k.var → picked_by t (one k w) v ≡ pos 0
picked_by-off t k w v ne =
    let true_one : one k w (T v) ≡ pos 0 = ap (λ b. cond b w (pos 0)) (off k v true ne) in
    let false_one : one k w (F v) ≡ pos 0 = ap (λ b. cond b w (pos 0)) (off k v false ne) in
    let left : cond (t (T v)) (one k w (T v)) (pos 0) ≡ pos 0 = ap (λ x. cond (t (T v)) x (pos 0)) true_one ∙ cond-none (t (T v)) in
    let right : cond (t (F v)) (one k w (F v)) (pos 0) ≡ pos 0 = ap (λ x. cond (t (F v)) x (pos 0)) false_one ∙ cond-none (t (F v)) in
    omega (arith, ints, left, right)

itself : (v : ℕ) → eqb v v ≡ true
itself v = grind (arith, nat_tests)

picked_by-here : (t : Literal → Bool) (v : ℕ) (b : Bool) (w : ℤ) → picked_by t (one (record { var = v; truth = b }) w) v ≡ cond (t (record { var = v; truth = b })) w (pos 0)
picked_by-here t v true w = rw (itself v) (omega (arith, ints, cond-none (t (F v))))
picked_by-here t v false w = rw (itself v) (omega (arith, ints, cond-none (t (T v))))

-- Each literal's weights add up at its variable.
pub picked-sum : (t : Literal → Bool) (atoms : Atoms) (n : ℕ) (items : List (ℤ × ℤ)) → AreVars atoms n items → weight_that t atoms items ≡ sum_to (picked_by t (weight_in atoms items)) n
picked-sum t atoms n [] h = sym (sum_to-zero (picked_by t (weight_in atoms [])) n (λ v. omega (arith, ints, cond-none (t (T v)), cond-none (t (F v)))))
picked-sum t atoms n (i ∷ items) h =
    let k = literal_in atoms i.0 in
    let split : sum_to (picked_by t (weight_in atoms (i ∷ items))) n ≡ sum_to (picked_by t (one k i.1)) n +ℤ sum_to (picked_by t (weight_in atoms items)) n =
    sum_to-same (picked_by t (weight_in atoms (i ∷ items))) (λ v. picked_by t (one k i.1) v +ℤ picked_by t (weight_in atoms items) v) n
    (λ v a b. picked_by-cons t (one k i.1) (weight_in atoms items) v)
    ∙ sum_to-add (picked_by t (one k i.1)) (picked_by t (weight_in atoms items)) n in
    let here : sum_to (picked_by t (one k i.1)) n ≡ cond (t k) i.1 (pos 0) =
    sum_to-one (picked_by t (one k i.1)) n k.var h.0.0 h.0.1 (picked_by-off t k i.1) ∙ picked_by-here t k.var k.truth i.1 in
    omega (arith, ints, split, here, picked-sum t atoms n items h.1)
