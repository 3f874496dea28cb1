-- Rows of weight bodies.
use Rattle.std.proofs.Common.{◌≡◌, ℕ, suc, zero, ◌<◌, ◌≤◌, Bool, true, false, not, ◌&&◌, ◌||◌, ltb, List, [], ◌∷◌, length, take, get_or, refl, ap, ◌∙◌, arith}
use Rattle.std.specs.List.{All, AllPairs, list_all}
use Rattle.std.proofs.lemmas.Bool.Decides.{nat_tests}
use Rattle.std.proofs.lemmas.List.Elements.{All-head, All-tail}
use Rattle.asp_vars.specs.Literals.{Literal}
use Rattle.asp_weight.specs.declared.item.Item.{Item}
use Rattle.asp_weight.specs.Spoken.{item_at}

-- the test of a row's items
abbrev pub passes : (Literal → Bool) → ℕ → Item → Bool
passes free least i = not (free i.lit) || ltb i.weight least

or_right : (a b : Bool) → b ≡ true → (a || b) ≡ true
or_right true b h = refl
or_right false b h = h

-- where the weights fall and the first one is light, all are
all_light : (free : Literal → Bool) (least : ℕ) (row : List Item) → All (λ i. i.weight < least) row → list_all (passes free least) row ≡ true
all_light free least [] a = refl
all_light free least (i ∷ row) a =
    ap (λ b. b && list_all (passes free least) row) (or_right (not (free i.lit)) (ltb i.weight least) (is_below i.weight least (All-head (λ (x : Item). x.weight < least) i row a)))
    ∙ all_light free least row (All-tail (λ (x : Item). x.weight < least) i row a)
  where
    is_below : (m n : ℕ) → m < n → ltb m n ≡ true
    is_below m n h = grind (arith, nat_tests)

falling_tail : (i : Item) (row : List Item) → AllPairs (λ i j. j.weight ≤ i.weight) (i ∷ row) → AllPairs (λ i j. j.weight ≤ i.weight) row
falling_tail i row f j k d l h = f (suc j) (suc k) d (omega arith) (omega arith)

-- the first items pass where they have values
pub none_open : (free : Literal → Bool) (least : ℕ) (row : List Item) (n : ℕ) → ((k : ℕ) → k < n → free (item_at row k).lit ≡ false) → list_all (passes free least) (take n row) ≡ true
none_open free least [] zero f = refl
none_open free least [] (suc n) f = refl
none_open free least (i ∷ row) zero f = refl
none_open free least (i ∷ row) (suc n) f =
    ap (λ b. (not b || ltb i.weight least) && list_all (passes free least) (take n row)) (f 0 (omega arith)) ∙ none_open free least row n (λ k h. f (suc k) (omega (arith, h)))

pub light_from : (free : Literal → Bool) (least : ℕ) (row : List Item) (n : ℕ) → AllPairs (λ i j. j.weight ≤ i.weight) row → list_all (passes free least) (take n row) ≡ true →
    ((d : Item) → n < length row → (get_or row n d).weight < least) → list_all (passes free least) row ≡ true
light_from free least [] n f h w = refl
light_from free least (i ∷ row) zero f h w =
    all_light free least (i ∷ row) (below f (w i (omega arith)))
  where
    below : AllPairs (λ x y. y.weight ≤ x.weight) (i ∷ row) → i.weight < least → All (λ x. x.weight < least) (i ∷ row)
    below g l zero d k = l
    below g l (suc j) d k = omega (arith, l, g 0 (suc j) d (omega arith) k)
light_from free least (i ∷ row) (suc n) f h w =
    both (passes free least i) (list_all (passes free least) (take n row)) (list_all (passes free least) row) h
    (λ e. light_from free least row n (falling_tail i row f) e (λ d l. w d (omega (arith, l))))
  where
    both : (a b c : Bool) → (a && b) ≡ true → (b ≡ true → c ≡ true) → (a && c) ≡ true
    both true b c e g = g e
    both false b c e g = e
