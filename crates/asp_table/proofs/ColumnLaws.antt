-- Cells of columns, row by row and key by key.
use Rattle.std.proofs.Common.{◌≡◌, ℕ, suc, ◌+◌, ◌<◌, ◌≤◌, Bool, true, false, cond, ◌||◌, eqb, List, [], ◌∷◌, ◌++◌, length, get_or, take, refl, sym, ap, ◌∙◌, subst, arith, ⊎_elim, get_or-set_same, get_or-set_other, ◌-◌}
use Rattle.std.proofs.Math.ListN.{set}
use Rattle.std.proofs.lemmas.Bool.{cases_eq}
use Rattle.std.proofs.lemmas.List.{length-take}
use Rattle.std.specs.List.{list_any, AllByRecursion}
use Rattle.std.proofs.lemmas.Bool.{false≢true, eq-eqb, ne_eqb}
use Rattle.std.proofs.lemmas.List.{take_more}
use Rattle.std.proofs.lemmas.List.Folds.{list_any-append}
use Rattle.asp_table.specs.declared.columns.Occurrence.{Occurrence}
use Rattle.asp_table.specs.Columns.{place_of, has_key, cell_of, column, ends_in, with_last}

pub place_of-found : {X : Type 0} (p : X → Bool) (xs ys : List X) → list_any p xs ≡ true → place_of p (xs ++ ys) ≡ place_of p xs
place_of-found p [] ys e = absurd (false≢true e)
place_of-found p (x ∷ xs) ys e = cases (p x) refl (place_of-found p xs ys)
  where
    cases : (t : Bool) → t ≡ p x → (list_any p xs ≡ true → place_of p (xs ++ ys) ≡ place_of p xs) → cond t 0 (suc (place_of p (xs ++ ys))) ≡ cond t 0 (suc (place_of p xs))
    cases true q f = refl
    cases false q f = ap suc (f (ap (λ t. t || list_any p xs) q ∙ e))

pub place_of-past : {X : Type 0} (p : X → Bool) (xs ys : List X) → list_any p xs ≡ false → place_of p (xs ++ ys) ≡ length xs + place_of p ys
place_of-past p [] ys e = omega arith
place_of-past p (x ∷ xs) ys e = cases (p x) refl (place_of-past p xs ys)
  where
    cases : (t : Bool) → t ≡ p x → (list_any p xs ≡ false → place_of p (xs ++ ys) ≡ length xs + place_of p ys) → cond t 0 (suc (place_of p (xs ++ ys))) ≡ suc (length xs) + place_of p ys
    cases true q f = absurd (false≢true (sym e ∙ sym (ap (λ t. t || list_any p xs) q)))
    cases false q f = let h = f (ap (λ t. t || list_any p xs) q ∙ e) in omega (arith, h)

-- ---- one key more
-- another key changes nothing
cell_of-other : (body k : ℕ) (row : List ℕ) (q : ℕ) → eqb q k ≡ false → cell_of body k (row ++ q ∷ []) ≡ cell_of body k row
cell_of-other body k row q e =
    ap (λ t. cond t (cell (place_of (λ x. eqb x k) (row ++ q ∷ [])) ∷ []) []) (list_any-append (λ x. eqb x k) row (q ∷ []) ∙ ap (λ t. has_key row k || (t || false)) e)
    ∙ cases (has_key row k) refl
  where
    cell : ℕ → Occurrence
    cell n = record { body = body; place = n }

    cases : (t : Bool) → t ≡ has_key row k → cond (t || false) (cell (place_of (λ x. eqb x k) (row ++ q ∷ [])) ∷ []) [] ≡ cond t (cell (place_of (λ x. eqb x k) row) ∷ []) []
    cases true p = ap (λ n. cell n ∷ []) (place_of-found (λ x. eqb x k) row (q ∷ []) (sym p))
    cases false p = refl

-- the key itself adds its cell, unless it stood before
ends_in-last : (cells : List Occurrence) (o : Occurrence) (body : ℕ) → ends_in (cells ++ o ∷ []) body ≡ eqb o.body body
ends_in-last [] o body = refl
ends_in-last (x ∷ []) o body = refl
ends_in-last (x ∷ y ∷ cells) o body = ends_in-last (y ∷ cells) o body

nothing_more : {X : Type 0} (xs : List X) → xs ++ [] ≡ xs
nothing_more [] = refl
nothing_more (x ∷ xs) = ap (λ ys. x ∷ ys) (nothing_more xs)

cell_of-same : (cells : List Occurrence) (body k : ℕ) (row : List ℕ) → ends_in cells body ≡ false → with_last (cells ++ cell_of body k row) body (length row) ≡ cells ++ cell_of body k (row ++ k ∷ [])
cell_of-same cells body k row new =
    cases (has_key row k) refl ∙ sym (ap (λ t. cells ++ cond t (cell (place_of (λ x. eqb x k) (row ++ k ∷ [])) ∷ []) [])
    (list_any-append (λ x. eqb x k) row (k ∷ []) ∙ ap (λ t. has_key row k || (t || false)) (eq-eqb k k refl)))
  where
    cell : ℕ → Occurrence
    cell n = record { body = body; place = n }

    one : eqb k k ≡ true
    one = eq-eqb k k refl

    cases : (t : Bool) → t ≡ has_key row k →
        with_last (cells ++ cond t (cell (place_of (λ x. eqb x k) row) ∷ []) []) body (length row) ≡ cells
        ++ cond (t || (true || false)) (cell (place_of (λ x. eqb x k) (row ++ k ∷ [])) ∷ []) []
    cases true p =
        let old : List Occurrence = cells ++ cell (place_of (λ x. eqb x k) row) ∷ [] in
        ap (λ t. cond t old (old ++ cell (length row) ∷ [])) (ends_in-last cells (cell (place_of (λ x. eqb x k) row)) body ∙ eq-eqb body body refl)
        ∙ ap (λ n. cells ++ cell n ∷ []) (sym (place_of-found (λ x. eqb x k) row (k ∷ []) (sym p)))
    cases false p =
        let here : cond (eqb k k) 0 1 ≡ 0 = ap {B = ℕ} (λ t. cond t 0 1) one in
        let past = place_of-past (λ x. eqb x k) row (k ∷ []) (sym p) in
        let at : length row ≡ place_of (λ x. eqb x k) (row ++ k ∷ []) = omega (arith, here, past) in
        ap (λ (xs : List Occurrence). cond (ends_in xs body) xs (xs ++ cell (length row) ∷ [])) (nothing_more cells)
        ∙ ap (λ t. cond t cells (cells ++ cell (length row) ∷ [])) new
        ∙ ap (λ n. cells ++ cell n ∷ []) at

-- ---- one row more
-- each cell is in a body below n
abbrev pub AreBelow : ℕ → List Occurrence → Type 0
AreBelow n cells = AllByRecursion (λ o. o.body < n) cells

each-append : {X : Type 0} (P : X → Type 0) (xs ys : List X) → AllByRecursion P xs → AllByRecursion P ys → AllByRecursion P (xs ++ ys)
each-append P [] ys a b = b
each-append P (x ∷ xs) ys a b = (a.0, each-append P xs ys a.1 b)

cell_below : (n body k : ℕ) (row : List ℕ) → body < n → AreBelow n (cell_of body k row)
cell_below n body k row lt = cases (has_key row k)
  where
    cases : (t : Bool) → AreBelow n (cond t (record { body = body; place = place_of (λ x. eqb x k) row } ∷ []) [])
    cases true = (lt, tt)
    cases false = tt

pub column_below : (n body k : ℕ) (rows : List (List ℕ)) → body + length rows ≤ n → AreBelow n (column body k rows)
column_below n body k [] le = tt
column_below n body k (row ∷ rows) le =
    each-append (λ o. o.body < n) (cell_of body k row) (column (suc body) k rows) (cell_below n body k row (omega arith)) (column_below n (suc body) k rows (omega arith))

none_ends : (n : ℕ) (cells : List Occurrence) → AreBelow n cells → ends_in cells n ≡ false
none_ends n [] h = refl
none_ends n (x ∷ []) h = ne_eqb x.body n (λ e. omega (arith, h.0, e))
none_ends n (x ∷ y ∷ cells) h = none_ends n (y ∷ cells) h.1

pub column_ends : (k : ℕ) (rows : List (List ℕ)) (n : ℕ) → length rows ≤ n → ends_in (column 0 k rows) n ≡ false
column_ends k rows n le = none_ends n (column 0 k rows) (column_below n 0 k rows (omega arith))

append_again : {X : Type 0} (xs ys zs : List X) → (xs ++ ys) ++ zs ≡ xs ++ (ys ++ zs)
append_again [] ys zs = refl
append_again (x ∷ xs) ys zs = ap (λ ws. x ∷ ws) (append_again xs ys zs)

pub column-push : (body k : ℕ) (rows : List (List ℕ)) (row : List ℕ) → column body k (rows ++ row ∷ []) ≡ column body k rows ++ cell_of (body + length rows) k row
column-push body k [] row = nothing_more (cell_of body k row) ∙ ap (λ n. cell_of n k row) (omega arith)
column-push body k (r ∷ rows) row =
    ap (λ cs. cell_of body k r ++ cs) (column-push (suc body) k rows row)
    ∙ sym (append_again (cell_of body k r) (column (suc body) k rows) (cell_of (suc body + length rows) k row))
    ∙ ap (λ n. column body k (r ∷ rows) ++ cell_of n k row) (omega arith)

-- ---- the loops' steps
length_take : {X : Type 0} (xs : List X) (i : ℕ) → i ≤ length xs → length (take i xs) ≡ i
length_take xs i le = omega (arith, length-take i xs)

pub add_step : (base columns : List (List Occurrence)) (body i k : ℕ) (keys : List ℕ) → i < length keys → get_or keys i 0 < length columns →
    ends_in (get_or base k []) body ≡ false → get_or columns k [] ≡ get_or base k [] ++ cell_of body k (take i keys) →
    get_or (set columns (get_or keys i 0) (with_last (get_or columns (get_or keys i 0) []) body i)) k [] ≡ get_or base k []
    ++ cell_of body k (take (i + 1) keys)
add_step base columns body i k keys lt within new so_far = ⊎_elim here elsewhere (cases_eq (get_or keys i 0) k)
  where
    q : ℕ
    q = get_or keys i 0

    here : get_or keys i 0 ≡ k → get_or (set columns (get_or keys i 0) (with_last (get_or columns (get_or keys i 0) []) body i)) k [] ≡ get_or base k [] ++ cell_of body k (take (i + 1) keys)
    here e =
        ap (λ n. get_or (set columns n (with_last (get_or columns n []) body i)) k []) e
        ∙ get_or-set_same columns k (with_last (get_or columns k []) body i) [] (subst (λ n. n < length columns) e within)
        ∙ ap (λ cs. with_last cs body i) so_far
        ∙ ap (with_last (get_or base k [] ++ cell_of body k (take i keys)) body) (sym (length_take keys i (omega arith)))
        ∙ cell_of-same (get_or base k []) body k (take i keys) new
        ∙ ap (λ n. get_or base k [] ++ cell_of body k (take i keys ++ n ∷ [])) (sym e)
        ∙ ap (λ row. get_or base k [] ++ cell_of body k row) (sym (take_more keys i 0 lt))

    elsewhere : (get_or keys i 0 ≡ k → ⊥) →
        get_or (set columns (get_or keys i 0) (with_last (get_or columns (get_or keys i 0) []) body i)) k [] ≡ get_or base k []
        ++ cell_of body k (take (i + 1) keys)
    elsewhere ne =
        get_or-set_other columns (get_or keys i 0) k (with_last (get_or columns (get_or keys i 0) []) body i) [] (λ e. ne (sym e))
        ∙ so_far
        ∙ ap (λ cs. get_or base k [] ++ cs) (sym (cell_of-other body k (take i keys) (get_or keys i 0) (ne_eqb (get_or keys i 0) k ne)))
        ∙ ap (λ row. get_or base k [] ++ cell_of body k row) (sym (take_more keys i 0 lt))

pub ends_in-at : (cells : List Occurrence) (d : Occurrence) (body : ℕ) → 0 < length cells → ends_in cells body ≡ eqb (get_or cells (length cells - 1) d).body body
ends_in-at [] d body lt = absurd (omega arith)
ends_in-at (x ∷ []) d body lt = refl
ends_in-at (x ∷ y ∷ cells) d body lt =
    ends_in-at (y ∷ cells) d body (omega arith)
    ∙ ap (λ n. eqb (get_or (y ∷ cells) n d).body body) (let e : suc (length cells) - 1 ≡ length cells = omega arith in e)
    ∙ ap (λ n. eqb (get_or (x ∷ y ∷ cells) n d).body body) (let e : suc (length cells) ≡ suc (suc (length cells)) - 1 = omega arith in e)

pub row_step : (cells : List Occurrence) (base : List Occurrence) (rows : List (List ℕ)) (i k : ℕ) (row : List ℕ) → i < length rows →
    get_or rows i [] ≡ row → base ≡ column 0 k (take i rows) → cells ≡ base ++ cell_of i k row → cells ≡ column 0 k (take (i + 1) rows)
row_step cells base rows i k row lt at so_far added =
    added
    ∙ ap (λ b. b ++ cell_of i k row) so_far
    ∙ ap (λ n. column 0 k (take i rows) ++ cell_of n k row) (let e : i ≡ 0 + length (take i rows) = omega (arith, length_take rows i (omega arith)) in e)
    ∙ ap (λ r. column 0 k (take i rows) ++ cell_of (0 + length (take i rows)) k r) (sym at)
    ∙ sym (column-push 0 k (take i rows) (get_or rows i []))
    ∙ ap (column 0 k) (sym (take_more rows i [] lt))
