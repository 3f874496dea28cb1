-- The values that entries give.
use Rattle.std.proofs.Common.{◌≡◌, ◌≢◌, ℕ, suc, zero, ◌+◌, ◌<◌, ◌≤◌, Bool, true, false, cond, eqb, List, [], ◌∷◌, length, Option, Some, None, filter, fold, find, replicate, set, get_or, refl, sym, ap, ◌∙◌, arith, get_or-set_other, get_or-set_same}
use Rattle.std.specs.List.{All}
use Rattle.std.specs.Option.{is_some}
use Rattle.std.proofs.lemmas.Bool.{eqb-true, false≢true}
use Rattle.std.proofs.lemmas.Bool.Decides.{nat_tests}
use Rattle.std.proofs.lemmas.Grind.{common_steps}
use Rattle.std.proofs.lemmas.List.{length-set, set-get_or}
use Rattle.std.proofs.lemmas.List.Elements.{All-head, All-tail}
use Rattle.asp_trail.specs.declared.trail.Entry.{Entry}
use Rattle.asp_trail.specs.Entries.{assign, assignment}

-- a value that is there stays
assign_stays : (z : List (Option Bool)) (e : Entry) (v : ℕ) → is_some (get_or z v None) ≡ true → is_some (get_or (assign z e) v None) ≡ true
assign_stays [] e v h = absurd (false≢true h)
assign_stays (o ∷ z) e v h = grind (arith, common_steps)

fold_stays : (z : List (Option Bool)) (es : List Entry) (v : ℕ) → is_some (get_or z v None) ≡ true → is_some (get_or (fold assign z es) v None) ≡ true
fold_stays z [] v h = h
fold_stays z (e ∷ es) v h = fold_stays (assign z e) es v (assign_stays z e v h)

-- an entry's variable has a value
entry_has : (z : List (Option Bool)) (es : List Entry) (i : ℕ) (d : Entry) → i < length es → (get_or es i d).lit.var < length z →
    is_some (get_or (fold assign z es) (get_or es i d).lit.var None) ≡ true
entry_has z [] i d h w = absurd (omega arith)
entry_has z (e ∷ es) zero d h w =
    fold_stays (assign z e) es e.lit.var (ap is_some (get_or-set_same z e.lit.var (Some e.lit.truth) None w))
entry_has z (e ∷ es) (suc i) d h w =
    entry_has (assign z e) es i d (omega arith) (rw length-set w)

pub entry_assigned : (vars : ℕ) (es : List Entry) (i : ℕ) (d : Entry) → i < length es → (get_or es i d).lit.var ≤ vars →
    is_some (get_or (assignment vars es) (get_or es i d).lit.var None) ≡ true
entry_assigned vars es i d h w = entry_has (replicate (vars + 1) None) es i d h (omega (arith, length-rep))
  where
    length-rep : (let o : Option Bool = None in length (replicate (vars + 1) o)) ≡ vars + 1
    length-rep = grind (arith, common_steps)

found_later : (e : Entry) (es : List Entry) (v : ℕ) → (i : ℕ) → i < length es → ((d : Entry) → (get_or es i d).lit.var ≡ v) →
    (i : ℕ) × (i < length (e ∷ es)) × ((d : Entry) → (get_or (e ∷ es) i d).lit.var ≡ v)
found_later e es v i h f = (suc i, omega arith, λ d. f d)

-- a value comes from the start or from an entry
pub fold_found : (z : List (Option Bool)) (es : List Entry) (v : ℕ) → get_or z v None ≡ None → is_some (get_or (fold assign z es) v None) ≡ true →
    (i : ℕ) × (i < length es) × ((d : Entry) → (get_or es i d).lit.var ≡ v)
fold_found z [] v n h = absurd (false≢true (ap is_some (sym n) ∙ h))
fold_found z (e ∷ es) v n h = cases (eqb e.lit.var v) refl (λ m. fold_found (assign z e) es v m h)
  where
    cases : (b : Bool) → b ≡ eqb e.lit.var v →
        (get_or (assign z e) v None ≡ None → (i : ℕ) × (i < length es) × ((d : Entry) → (get_or es i d).lit.var ≡ v)) →
        (i : ℕ) × (i < length (e ∷ es)) × ((d : Entry) → (get_or (e ∷ es) i d).lit.var ≡ v)
    cases true q later = (0, omega arith, λ d. eqb-true e.lit.var v (sym q))
    cases false q later =
        let ne : v ≢ e.lit.var = grind (arith, nat_tests) in
        let f = later (get_or-set_other z e.lit.var v (Some e.lit.truth) None ne ∙ n) in
        found_later e es v f.0 f.1 f.2

-- with no entry of it a variable has the value that it began with
pub fold_without : (z : List (Option Bool)) (es : List Entry) (v : ℕ) → All (λ e. e.lit.var ≢ v) es → get_or (fold assign z es) v None ≡ get_or z v None
fold_without z [] v a = refl
fold_without z (e ∷ es) v a =
    let ne : v ≢ e.lit.var = λ q. All-head (λ f. f.lit.var ≢ v) e es a (sym q) in
    fold_without (assign z e) es v (All-tail (λ f. f.lit.var ≢ v) e es a) ∙ get_or-set_other z e.lit.var v (Some e.lit.truth) None ne

pub none_at : (n v : ℕ) → (let o : Option Bool = None in get_or (replicate n o) v o) ≡ None
none_at zero v = refl
none_at (suc n) zero = refl
none_at (suc n) (suc v) = none_at n v

pub set_set : {X : Type 0} → (xs : List X) (i : ℕ) (x y : X) → set (set xs i x) i y ≡ set xs i y
set_set [] i x y = refl
set_set (z ∷ xs) zero x y = refl
set_set (z ∷ xs) (suc i) x y = ap (λ ys. z ∷ ys) (set_set xs i x y)

-- taking the newest value away
pub unset : (xs : List (Option Bool)) (v : ℕ) (o : Option Bool) → get_or xs v None ≡ None → set (set xs v o) v None ≡ xs
unset xs v o n = set_set xs v o None ∙ (ap (λ x. set xs v x) (sym n) ∙ set-get_or xs v None)

-- the first element that passes
pub find_only : {X : Type 0} → (p : X → Bool) (xs : List X) (i : ℕ) (d : X) → i < length xs → p (get_or xs i d) ≡ true →
    ((j : ℕ) → j < i → p (get_or xs j d) ≡ false) → find p xs ≡ Some (get_or xs i d)
find_only p [] i d h t f = absurd (omega arith)
find_only p (x ∷ xs) zero d h t f = ap (λ b. cond b (Some x) (find p xs)) t
find_only p (x ∷ xs) (suc i) d h t f =
    ap (λ b. cond b (Some x) (find p xs)) (f 0 (omega arith)) ∙ find_only p xs i d (omega arith) t (λ j l. f (suc j) (omega arith))

pub filter_all : {X : Type 0} → (p : X → Bool) (xs : List X) → All (λ x. p x ≡ true) xs → filter p xs ≡ xs
filter_all p [] a = refl
filter_all p (x ∷ xs) a =
    ap (λ b. cond b (x ∷ filter p xs) (filter p xs)) (All-head (λ y. p y ≡ true) x xs a) ∙ ap (λ ys. x ∷ ys) (filter_all p xs (All-tail (λ y. p y ≡ true) x xs a))

-- the default doesn't count within the list
pub same_default : {X : Type 0} → (xs : List X) (i : ℕ) (d e : X) → i < length xs → get_or xs i d ≡ get_or xs i e
same_default [] i d e h = absurd (omega arith)
same_default (x ∷ xs) zero d e h = refl
same_default (x ∷ xs) (suc i) d e h = same_default xs i d e (omega arith)
