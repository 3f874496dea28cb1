-- Lists and their filters.
use Rattle.std.proofs.Common.{◌≡◌, Bool, true, false, cond, ◌||◌, List, [], ◌∷◌, map, filter, refl, sym, ap, ◌∙◌, inl, inr}
use Rattle.std.specs.List.{AllByRecursion, list_any, list_all}
use Rattle.std.proofs.lemmas.Bool.{and_from, and_parts, false_from_ne_true, false≢true, or_cases, or_left, or_right}

-- the first of those that pass does
pub first_passes : {X : Type 0} (q : X → Bool) (xs : List X) (y : X) (ys : List X) → filter q xs ≡ y ∷ ys → q y ≡ true
first_passes {X = X} q [] y ys e = absurd cc
first_passes {X = X} q (x ∷ xs) y ys e = by (q x) refl e (first_passes q xs y ys)
  where
    by : (b : Bool) → q x ≡ b → cond b (x ∷ filter q xs) (filter q xs) ≡ y ∷ ys → (filter q xs ≡ y ∷ ys → q y ≡ true) → q y ≡ true
    by true passes is rest = let same : x ≡ y = cc in ap q (sym same) ∙ passes
    by false fails is rest = rest is

-- what some of those that pass has, some has
pub any_passing : {X : Type 0} (f q : X → Bool) (xs : List X) → list_any f (filter q xs) ≡ true → list_any f xs ≡ true
any_passing {X = X} f q [] h = h
any_passing {X = X} f q (x ∷ xs) h = by (q x) h (any_passing f q xs)
  where
    by : (b : Bool) → list_any f (cond b (x ∷ filter q xs) (filter q xs)) ≡ true → (list_any f (filter q xs) ≡ true → list_any f xs ≡ true) → (f x || list_any f xs) ≡ true
    by true k rest = elim (or_cases (f x) (list_any f (filter q xs)) k) [
      | inl here ↦ or_left (f x) (list_any f xs) here
      | inr later ↦ or_right (f x) (list_any f xs) (rest later)
    ]
    by false k rest = or_right (f x) (list_any f xs) (rest k)

-- what passes has everything that all have
pub all_passing : {X : Type 0} (f q : X → Bool) (xs : List X) → list_all f xs ≡ true → list_all f (filter q xs) ≡ true
all_passing {X = X} f q [] h = h
all_passing {X = X} f q (x ∷ xs) h = by (q x) (and_parts (f x) (list_all f xs) h).0 (all_passing f q xs (and_parts (f x) (list_all f xs) h).1)
  where
    by : (b : Bool) → f x ≡ true → list_all f (filter q xs) ≡ true → list_all f (cond b (x ∷ filter q xs) (filter q xs)) ≡ true
    by true here rest = and_from (f x) (list_all f (filter q xs)) here rest
    by false here rest = rest

-- Nothing is lost where all that has it passes.
pub any_kept : {X : Type 0} (f q : X → Bool) → ((x : X) → f x ≡ true → q x ≡ true) → (xs : List X) → list_any f xs ≡ list_any f (filter q xs)
any_kept {X = X} f q h [] = refl
any_kept {X = X} f q h (x ∷ xs) = by (q x) refl (any_kept f q h xs)
  where
    by : (b : Bool) → q x ≡ b → list_any f xs ≡ list_any f (filter q xs) → (f x || list_any f xs) ≡ list_any f (cond b (x ∷ filter q xs) (filter q xs))
    by true e rest = ap (λ (b : Bool). f x || b) rest
    by false e rest =
        let none : f x ≡ false = false_from_ne_true (f x) (λ has. false≢true (sym e ∙ h x has)) in
        ap (λ (b : Bool). b || list_any f xs) none ∙ rest

pub same_map : {X Y : Type 0} (f g : X → Y) (xs : List X) → AllByRecursion (λ x. f x ≡ g x) xs → map f xs ≡ map g xs
same_map f g [] h = refl
same_map f g (x ∷ xs) h = ap (λ y. y ∷ map f xs) h.0 ∙ ap (λ ys. g x ∷ ys) (same_map f g xs h.1)

pub same_filter : {X : Type 0} (f g : X → Bool) (xs : List X) → AllByRecursion (λ x. f x ≡ g x) xs → filter f xs ≡ filter g xs
same_filter f g [] h = refl
same_filter f g (x ∷ xs) h = ap (λ c. cond c (x ∷ filter f xs) (filter f xs)) h.0 ∙ ap (λ ys. cond (g x) (x ∷ ys) ys) (same_filter f g xs h.1)

pub same_any : {X : Type 0} (f g : X → Bool) (xs : List X) → AllByRecursion (λ x. f x ≡ g x) xs → list_any f xs ≡ list_any g xs
same_any f g [] h = refl
same_any f g (x ∷ xs) h = ap (λ b. b || list_any f xs) h.0 ∙ ap (λ b. g x || b) (same_any f g xs h.1)
