-- Filtered lists.
use Rattle.std.proofs.Common.{◌≡◌, Bool, true, false, not, cond, ◌&&◌, List, [], ◌∷◌, ◌++◌, filter, refl, sym, ap, ◌∙◌}
use Rattle.std.specs.List.{AllByRecursion}
use Rattle.std.proofs.lemmas.Bool.{false≢true}

pub filter-append : {X : Type 0} (q : X → Bool) (xs ys : List X) → filter q (xs ++ ys) ≡ filter q xs ++ filter q ys
filter-append {X = X} q [] ys = refl
filter-append {X = X} q (x ∷ xs) ys = here (q x) (filter-append q xs ys)
  where
    here : (b : Bool) → filter q (xs ++ ys) ≡ filter q xs ++ filter q ys → cond b (x ∷ filter q (xs ++ ys)) (filter q (xs ++ ys)) ≡ cond b (x ∷ filter q xs) (filter q xs) ++ filter q ys
    here true rest = ap (λ (l : List X). x ∷ l) rest
    here false rest = rest

-- what passes one test and then another
pub filter-both : {X : Type 0} (p q : X → Bool) (xs : List X) → filter p (filter q xs) ≡ filter (λ x. q x && p x) xs
filter-both {X = X} p q [] = refl
filter-both {X = X} p q (x ∷ xs) = here (q x) (filter-both p q xs)
  where
    here : (b : Bool) → filter p (filter q xs) ≡ filter (λ x. q x && p x) xs →
        filter p (cond b (x ∷ filter q xs) (filter q xs)) ≡ cond (b && p x) (x ∷ filter (λ x. q x && p x) xs) (filter (λ x. q x && p x) xs)
    here true rest = ap (λ (l : List X). cond (p x) (x ∷ l) l) rest
    here false rest = rest

-- what passes the stronger of two tests
pub filter-stronger : {X : Type 0} (p q : X → Bool) → ((x : X) → p x ≡ true → q x ≡ true) → (xs : List X) → filter p (filter q xs) ≡ filter p xs
filter-stronger {X = X} p q stronger [] = refl
filter-stronger {X = X} p q stronger (x ∷ xs) = here (q x) refl (p x) refl (filter-stronger p q stronger xs)
  where
    here : (b : Bool) → b ≡ q x → (a : Bool) → a ≡ p x → filter p (filter q xs) ≡ filter p xs → filter p (cond b (x ∷ filter q xs) (filter q xs)) ≡ cond a (x ∷ filter p xs) (filter p xs)
    here true e a f rest = ap (λ y. cond y (x ∷ filter p (filter q xs)) (filter p (filter q xs))) (sym f) ∙ ap (λ (l : List X). cond a (x ∷ l) l) rest
    here false e true f rest = absurd (false≢true (e ∙ stronger x (sym f)))
    here false e false f rest = rest

-- where none passes, all pass the other test
pub filter-others : {X : Type 0} (p : X → Bool) (xs : List X) → filter p xs ≡ [] → filter (λ x. not (p x)) xs ≡ xs
filter-others {X = X} p [] none = refl
filter-others {X = X} p (x ∷ xs) none = here (p x) none (filter-others p xs)
  where
    here : (b : Bool) → cond b (x ∷ filter p xs) (filter p xs) ≡ [] → (filter p xs ≡ [] → filter (λ x. not (p x)) xs ≡ xs) →
        cond (not b) (x ∷ filter (λ x. not (p x)) xs) (filter (λ x. not (p x)) xs) ≡ x ∷ xs
    here true e rest = absurd (let f : ⊥ = cc in f)
    here false e rest = ap (λ (l : List X). x ∷ l) (rest e)

pub filter-nothing : {X : Type 0} (p : X → Bool) (xs : List X) → AllByRecursion (λ x. p x ≡ false) xs → filter p xs ≡ []
filter-nothing p [] none = refl
filter-nothing p (x ∷ xs) none = ap (λ b. cond b (x ∷ filter p xs) (filter p xs)) none.0 ∙ filter-nothing p xs none.1
