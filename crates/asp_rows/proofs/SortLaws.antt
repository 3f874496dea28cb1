-- What is sorted and made single row by row is so set by set.
use Rattle.std.proofs.Common.{◌≡◌, ◌+◌, ◌<◌, Bool, true, false, List, [], ◌∷◌, map, length, get_or, refl, sym, ap, ◌∙◌, subst, arith}
use Rattle.std.specs.List.{All, AllByRecursion, items_where_true}
use Rattle.std.specs.Ordering.{is_lt}
use Rattle.std.specs.declared.cmp.Ordering.{Ordering}
use Rattle.std.specs.List.Sorted.{IsPermutation, IsSorted}
use Rattle.std.specs.List.Retain.{IsFiltered, DiffersFromLast, ReturnsInTurn}
use Rattle.std.proofs.lemmas.List.{get_or-map, length-map}
use Rattle.std.proofs.lemmas.List.Elements.{All-from_recursion, recursion_from_All}
use Rattle.std.proofs.lemmas.List.Sorted.{All-permutation}

pub sorted_map : {A B : Type 0} (f : A → B) (P : A → Type 0) (c : A → A → Ordering) (d : B → B → Ordering) (xs : List A)
    → ((x y : A) → P x → P y → c x y ≡ d (f x) (f y)) → All P xs → IsSorted c xs → IsSorted d (map f xs)
sorted_map f P c d [] agree all sorted = λ k e low lt. absurd (omega arith)
sorted_map f P c d (x ∷ xs) agree all sorted = λ k e low lt.
    let len = length-map (x ∷ xs) f in
    let next : k + 1 < length (x ∷ xs) = omega (arith, lt, len) in
    let here : k < length (x ∷ xs) = omega arith in
    rw (get_or-map f (x ∷ xs) (k + 1) x e next, get_or-map f (x ∷ xs) k x e here)
    (ap is_lt (sym (agree (get_or (x ∷ xs) (k + 1) x) (get_or (x ∷ xs) k x) (all (k + 1) x next) (all k x here))) ∙ sorted k x low next)

kept_map : {A B : Type 0} (f : A → B) (bs : List Bool) (xs : List A) → map f (items_where_true bs xs) ≡ items_where_true bs (map f xs)
kept_map f [] xs = refl
kept_map f (b ∷ bs) [] = refl
kept_map f (true ∷ bs) (x ∷ xs) = ap (λ t. f x ∷ t) (kept_map f bs xs)
kept_map f (false ∷ bs) (x ∷ xs) = kept_map f bs xs

turn_map : {A B : Type 0} (f : A → B) (P : A → Type 0) (e : A → A → Bool) (h : B → B → Bool) → ((x y : A) → P x → P y → e x y ≡ h (f x) (f y))
    → (p : List A) (x : A) (b : Bool) (q : List A) → AllByRecursion P p → P x → DiffersFromLast e p x b q → DiffersFromLast h (map f p) (f x) b (map f q)
turn_map f P e h agree [] x b q all px t = (t.0, ap (map f) t.1)
turn_map f P e h agree (y ∷ p) x true q all px t = (sym (agree x y px all.0) ∙ t.0, ap (map f) t.1)
turn_map f P e h agree (y ∷ p) x false q all px t = (sym (agree x y px all.0) ∙ t.0, ap (map f) t.1)

-- what was kept last is still of the rows
turn_kept : {A : Type 0} (P : A → Type 0) (e : A → A → Bool) (p : List A) (x : A) (b : Bool) (q : List A) → AllByRecursion P p → P x → DiffersFromLast e p x b q → AllByRecursion P q
turn_kept P e [] x b q all px t = subst (AllByRecursion P) (sym t.1) (px, tt)
turn_kept P e (y ∷ p) x true q all px t = subst (AllByRecursion P) (sym t.1) (px, tt)
turn_kept P e (y ∷ p) x false q all px t = subst (AllByRecursion P) (sym t.1) all

turns_map : {A B : Type 0} (f : A → B) (P : A → Type 0) (e : A → A → Bool) (h : B → B → Bool) → ((x y : A) → P x → P y → e x y ≡ h (f x) (f y))
    → (p : List A) (bs : List Bool) (xs q : List A) → AllByRecursion P p → AllByRecursion P xs → ReturnsInTurn (DiffersFromLast e) p bs xs q →
    ReturnsInTurn (DiffersFromLast h) (map f p) bs (map f xs) (map f q)
turns_map f P e h agree p [] xs q all each r = ap (map f) r
turns_map f P e h agree p (b ∷ bs) [] q all each r = r
turns_map f P e h agree p (b ∷ bs) (x ∷ xs) q all each r =
    (map f r.0, turn_map f P e h agree p x b r.0 all each.0 r.1, turns_map f P e h agree r.0 bs xs q (turn_kept P e p x b r.0 all each.0 r.1) each.1 r.2)

pub filtered_map : {A B : Type 0} (f : A → B) (P : A → Type 0) (e : A → A → Bool) (h : B → B → Bool) (xs ys : List A)
    → ((x y : A) → P x → P y → e x y ≡ h (f x) (f y)) → AllByRecursion P xs → IsFiltered (DiffersFromLast e) [] xs ys → IsFiltered (DiffersFromLast h) [] (map f xs) (map f ys)
filtered_map f P e h xs ys agree each r =
    (r.0, map f r.1, r.2 ∙ sym (length-map xs f), turns_map f P e h agree [] r.0 xs r.1 tt each r.3, ap (map f) r.4 ∙ kept_map f r.0 xs)

-- what is kept is of the rows
kept_all : {A : Type 0} (P : A → Type 0) (bs : List Bool) (xs : List A) → AllByRecursion P xs → AllByRecursion P (items_where_true bs xs)
kept_all P [] xs all = tt
kept_all P (b ∷ bs) [] all = tt
kept_all P (true ∷ bs) (x ∷ xs) all = (all.0, kept_all P bs xs all.1)
kept_all P (false ∷ bs) (x ∷ xs) all = kept_all P bs xs all.1

pub filtered_all : {A : Type 0} (P : A → Type 0) (e : A → A → Bool) (xs ys : List A) → AllByRecursion P xs → IsFiltered (DiffersFromLast e) [] xs ys → AllByRecursion P ys
filtered_all P e xs ys all r = subst (AllByRecursion P) (sym r.4) (kept_all P r.0 xs all)

pub permuted_all : {A : Type 0} (P : A → Type 0) (xs ys : List A) → AllByRecursion P xs → IsPermutation xs ys → AllByRecursion P ys
permuted_all P xs ys all same = recursion_from_All P ys (All-permutation P xs ys same (All-from_recursion P xs all))
