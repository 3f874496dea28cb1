-- What lists made of other lists have.
use Rattle.std.proofs.Common.{◌≡◌, ℕ, suc, ◌+◌, ◌≤◌, Bool, true, false, cond, ◌&&◌, ◌||◌, eqb, List, [], ◌∷◌, ◌++◌, length, map, filter, flat_map, refl, sym, ap, ◌∙◌, arith, inl, inr, ◌⊎◌}
use Rattle.std.specs.List.{AllByRecursion, list_any, list_all}
use Rattle.std.proofs.lemmas.Bool.{or_cases, or_left, or_right, eqb-true, eq-eqb, false≢true, cases_Bool, and_parts}
use Rattle.std.proofs.lemmas.List.Folds.{list_any-append}
use Rattle.asp_model.specs.declared.program.Rule.{Rule}
use Rattle.asp_model.specs.Sets.{Atoms, has, IsSubset}
use Rattle.asp_model.specs.Models.{head_atoms}

pub list_any-flat_map : {X Y : Type 0} (p : Y → Bool) (f : X → List Y) (xs : List X) → list_any p (flat_map f xs) ≡ list_any (λ x. list_any p (f x)) xs
list_any-flat_map p f [] = refl
list_any-flat_map p f (x ∷ xs) = list_any-append p (f x) (flat_map f xs) ∙ ap (λ b. list_any p (f x) || b) (list_any-flat_map p f xs)

pub list_any-map : {X Y : Type 0} (p : Y → Bool) (f : X → Y) (xs : List X) → list_any p (map f xs) ≡ list_any (λ x. p (f x)) xs
list_any-map p f [] = refl
list_any-map p f (x ∷ xs) = ap (λ b. p (f x) || b) (list_any-map p f xs)

cond_or : {X : Type 0} (b : Bool) (p : X → Bool) (x : X) (xs : List X) → list_any p (cond b (x ∷ xs) xs) ≡ ((b && p x) || list_any p xs)
cond_or true p x xs = refl
cond_or false p x xs = refl

pub list_any-filter : {X : Type 0} (p q : X → Bool) (xs : List X) → list_any p (filter q xs) ≡ list_any (λ x. q x && p x) xs
list_any-filter p q [] = refl
list_any-filter p q (x ∷ xs) = cond_or (q x) p x (filter q xs) ∙ ap (λ b. (q x && p x) || b) (list_any-filter p q xs)

-- what passes one test passes another
pub list_any-weaker : {X : Type 0} (p q : X → Bool) (xs : List X) → AllByRecursion (λ x. p x ≡ true → q x ≡ true) xs → list_any p xs ≡ true → list_any q xs ≡ true
list_any-weaker p q [] h any = any
list_any-weaker p q (x ∷ xs) h any = elim (or_cases (p x) (list_any p xs) any) [
  | inl e ↦ or_left (q x) (list_any q xs) (h.0 e)
  | inr e ↦ or_right (q x) (list_any q xs) (list_any-weaker p q xs h.1 e)
]

-- what holds of all holds of one that passes
pub one_passes : {X : Type 0} (P : Type 0) (p : X → Bool) (xs : List X) → AllByRecursion (λ x. p x ≡ true → P) xs → list_any p xs ≡ true → P
one_passes P p [] h any = absurd (false≢true any)
one_passes P p (x ∷ xs) h any = elim (or_cases (p x) (list_any p xs) any) [ inl e ↦ h.0 e | inr e ↦ one_passes P p xs h.1 e ]

pub each_of : {X : Type 0} (P : X → Type 0) → ((x : X) → P x) → (xs : List X) → AllByRecursion P xs
each_of P h [] = tt
each_of P h (x ∷ xs) = (h x, each_of P h xs)

pub each_weaker : {X : Type 0} (P Q : X → Type 0) → ((x : X) → P x → Q x) → (xs : List X) → AllByRecursion P xs → AllByRecursion Q xs
each_weaker P Q h [] all = tt
each_weaker P Q h (x ∷ xs) all = (h x all.0, each_weaker P Q h xs all.1)

pub each_passes : {X : Type 0} (p : X → Bool) (xs : List X) → list_all p xs ≡ true → AllByRecursion (λ x. p x ≡ true) xs
each_passes p [] h = tt
each_passes p (x ∷ xs) h = let parts = and_parts (p x) (list_all p xs) h in (parts.0, each_passes p xs parts.1)

pub each-append : {X : Type 0} (P : X → Type 0) (xs ys : List X) → AllByRecursion P xs → AllByRecursion P ys → AllByRecursion P (xs ++ ys)
each-append P [] ys a b = b
each-append P (x ∷ xs) ys a b = (a.0, each-append P xs ys a.1 b)

pub each-flat_map : {X Y : Type 0} (P : Y → Type 0) (f : X → List Y) (xs : List X) → AllByRecursion (λ x. AllByRecursion P (f x)) xs → AllByRecursion P (flat_map f xs)
each-flat_map P f [] h = tt
each-flat_map P f (x ∷ xs) h = each-append P (f x) (flat_map f xs) h.0 (each-flat_map P f xs h.1)

pub each-map : {X Y : Type 0} (P : Y → Type 0) (f : X → Y) (xs : List X) → AllByRecursion (λ x. P (f x)) xs → AllByRecursion P (map f xs)
each-map P f [] h = tt
each-map P f (x ∷ xs) h = (h.0, each-map P f xs h.1)

cond_each : {X : Type 0} (P : X → Type 0) (b : Bool) (x : X) (xs : List X) → P x → AllByRecursion P xs → AllByRecursion P (cond b (x ∷ xs) xs)
cond_each P true x xs p all = (p, all)
cond_each P false x xs p all = all

pub each-filter : {X : Type 0} (P : X → Type 0) (q : X → Bool) (xs : List X) → AllByRecursion P xs → AllByRecursion P (filter q xs)
each-filter P q [] h = tt
each-filter P q (x ∷ xs) h = cond_each P (q x) x (filter q xs) h.0 (each-filter P q xs h.1)

-- all of xs are in ys
abbrev pub HasAll : List ℕ → List ℕ → Type 0
HasAll ys xs = AllByRecursion (λ a. has ys a ≡ true) xs

pub HasAll-left : (ys zs xs : List ℕ) → HasAll ys xs → HasAll (ys ++ zs) xs
HasAll-left ys zs xs h = each_weaker (λ a. has ys a ≡ true) (λ a. has (ys ++ zs) a ≡ true) (λ a e. list_any-append (λ b. eqb b a) ys zs ∙ or_left (has ys a) (has zs a) e) xs h

pub HasAll-right : (ys zs xs : List ℕ) → HasAll zs xs → HasAll (ys ++ zs) xs
HasAll-right ys zs xs h = each_weaker (λ a. has zs a ≡ true) (λ a. has (ys ++ zs) a ≡ true) (λ a e. list_any-append (λ b. eqb b a) ys zs ∙ or_right (has ys a) (has zs a) e) xs h

pub HasAll-itself : (xs : List ℕ) → HasAll xs xs
HasAll-itself [] = tt
HasAll-itself (x ∷ xs) = (
  or_left (eqb x x) (has xs x) (eq-eqb x x refl),
  each_weaker (λ a. has xs a ≡ true) (λ a. has (x ∷ xs) a ≡ true) (λ a e. or_right (eqb x a) (has xs a) e) xs (HasAll-itself xs),
)

pub HasAll-flat_map : {X : Type 0} (f : X → List ℕ) (xs : List X) → AllByRecursion (λ x. HasAll (flat_map f xs) (f x)) xs
HasAll-flat_map f [] = tt
HasAll-flat_map f (x ∷ xs) = (
  HasAll-left (f x) (flat_map f xs) (f x) (HasAll-itself (f x)),
  each_weaker (λ y. HasAll (flat_map f xs) (f y)) (λ y. HasAll (f x ++ flat_map f xs) (f y)) (λ y h. HasAll-right (f x) (flat_map f xs) (f y) h) xs (HasAll-flat_map f xs),
)

-- the front of an appended list is in what has the whole
pub each-front : {X : Type 0} (P : X → Type 0) (xs ys : List X) → AllByRecursion P (xs ++ ys) → AllByRecursion P xs
each-front P [] ys h = tt
each-front P (x ∷ xs) ys h = (h.0, each-front P xs ys h.1)

-- one set is a subset of the other, or has an atom that the other lacks
pub subset_or_new : (S T : Atoms) → IsSubset S T ⊎ ((a : ℕ) × (has S a ≡ true) × (has T a ≡ false))
subset_or_new [] T = inl (λ a h. absurd (false≢true h))
subset_or_new (b ∷ S) T = elim (cases_Bool (has T b)) [
  | inl e ↦ elim (subset_or_new S T) [
    | inl sub ↦ inl (λ a h. elim (or_cases (eqb b a) (has S a) h) [ inl same ↦ ap (has T) (sym (eqb-true b a same)) ∙ e | inr there ↦ sub a there ])
    | inr new ↦ inr (new.0, or_right (eqb b new.0) (has S new.0) new.1, new.2)
  ]
  | inr e ↦ inr (b, or_left (eqb b b) (has S b) (eq-eqb b b refl), e)
]

-- how many atoms of a list are in the set
abbrev pub count_in : List ℕ → Atoms → ℕ
count_in [] T = 0
count_in (a ∷ L) T = cond (has T a) 1 0 + count_in L T

pub count_in-le-length : (L : List ℕ) (T : Atoms) → count_in L T ≤ length L
count_in-le-length [] T = omega arith
count_in-le-length (a ∷ L) T = grind (arith, count_in-le-length L T)

pub count_in-subset : (L : List ℕ) (S T : Atoms) → IsSubset S T → count_in L S ≤ count_in L T
count_in-subset [] S T h = omega arith
count_in-subset (a ∷ L) S T h = grind (arith, count_in-subset L S T h, h a)

pub count_in-new : (L : List ℕ) (S T : Atoms) (a : ℕ) → IsSubset S T → has L a ≡ true → has S a ≡ false → has T a ≡ true → suc (count_in L S) ≤ count_in L T
count_in-new [] S T a h l s t = absurd (false≢true l)
count_in-new (b ∷ L) S T a h l s t = elim (or_cases (eqb b a) (has L a) l) [
  | inl e ↦ here (eqb-true b a e)
  | inr e ↦ grind (arith, count_in-new L S T a h e s t, h b)
]
  where
    here : b ≡ a → suc (cond (has S b) 1 0 + count_in L S) ≤ cond (has T b) 1 0 + count_in L T
    here e =
        let absent : has S b ≡ false = ap (has S) e ∙ s in
        let there : has T b ≡ true = ap (has T) e ∙ t in
        rw (absent, there) (omega (arith, count_in-subset L S T h))

-- the atoms of the heads
abbrev pub heads_of : List Rule → List ℕ
heads_of rules = flat_map (λ r. head_atoms r.head) rules
