-- Rows in one flat list.
use Rattle.std.proofs.Common.{◌≡◌, ℕ, zero, suc, ◌+◌, ◌-◌, ◌<◌, ◌≤◌, List, [], ◌∷◌, ◌++◌, length, get_or, take, drop, refl, sym, ap, ◌∙◌, add-one, arith, length-append, length-drop}
use Rattle.std.proofs.lemmas.List.{take-append-le, drop_at, drop-append-le}
use Rattle.asp_table.specs.Tables.{rows_from, AreStarts}

pub start_within : {X : Type 0} (s : ℕ) (starts : List ℕ) (items : List X) → AreStarts (s ∷ starts) items → s ≤ length items
start_within s [] items h = omega arith
start_within s (e ∷ starts) items h = omega (arith, h.0, start_within e starts items h.1)

-- one more row
first_row : {X : Type 0} (s : ℕ) (items row : List X) → s ≡ length items → take (length (items ++ row) - s) (drop s (items ++ row)) ≡ row
first_row s items row e =
    ap (take (length (items ++ row) - s)) (drop_at items row s (sym e))
    ∙ ap (λ n. take n row) (let k : length (items ++ row) - s ≡ length row = omega (arith, length-append items row) in k) ∙ whole row
  where
    whole : {X : Type 0} (xs : List X) → take (length xs) xs ≡ xs
    whole [] = refl
    whole (x ∷ xs) = ap (λ ys. x ∷ ys) (whole xs)

kept_row : {X : Type 0} (s e : ℕ) (items row : List X) → s ≤ e → e ≤ length items → take (e - s) (drop s (items ++ row)) ≡ take (e - s) (drop s items)
kept_row s e items row le within =
    ap (take (e - s)) (drop-append-le s items row (omega arith))
    ∙ take-append-le (e - s) (drop s items) row (omega (arith, length-drop s items))

pub rows_from-push : {X : Type 0} (starts : List ℕ) (items row : List X) → AreStarts starts items → rows_from (starts ++ length (items ++ row) ∷ []) (items ++ row) ≡ rows_from starts items ++ row ∷ []
rows_from-push [] items row h = absurd h
rows_from-push (s ∷ []) items row h = ap (λ r. r ∷ []) (first_row s items row h)
rows_from-push (s ∷ e ∷ starts) items row h =
    let front = kept_row s e items row h.0 (start_within e starts items h.1) in
    let rest = rows_from-push (e ∷ starts) items row h.1 in
    λ i. front i ∷ rest i

pub AreStarts-push : {X : Type 0} (starts : List ℕ) (items row : List X) → AreStarts starts items → AreStarts (starts ++ length (items ++ row) ∷ []) (items ++ row)
AreStarts-push [] items row h = absurd h
AreStarts-push (s ∷ []) items row h = (omega (arith, length-append items row), refl)
AreStarts-push (s ∷ e ∷ starts) items row h = (h.0, AreStarts-push (e ∷ starts) items row h.1)

-- a row
pub length-rows_from : {X : Type 0} (starts : List ℕ) (items : List X) → AreStarts starts items → length (rows_from starts items) + 1 ≡ length starts
length-rows_from [] items h = absurd h
length-rows_from (s ∷ []) items h = refl
length-rows_from (s ∷ e ∷ starts) items h = let rest = length-rows_from (e ∷ starts) items h.1 in omega (arith, rest)

rise : {X : Type 0} (starts : List ℕ) (items : List X) (i : ℕ) → AreStarts starts items → suc i < length starts →
    (get_or starts i 0 ≤ get_or starts (suc i) 0) × (get_or starts (suc i) 0 ≤ length items)
rise [] items i h lt = absurd h
rise (s ∷ []) items i h lt = absurd (omega arith)
rise (s ∷ e ∷ starts) items zero h lt = (h.0, start_within e starts items h.1)
rise (s ∷ e ∷ starts) items (suc i) h lt = rise (e ∷ starts) items i h.1 (omega arith)

pub starts_rise : {X : Type 0} (starts : List ℕ) (items : List X) (i : ℕ) → AreStarts starts items → i + 1 < length starts →
    (get_or starts i 0 ≤ get_or starts (i + 1) 0) × (get_or starts (i + 1) 0 ≤ length items)
starts_rise starts items i h lt = rw add-one (rise starts items i h (omega arith))

row_at : {X : Type 0} (starts : List ℕ) (items : List X) (i : ℕ) → AreStarts starts items → suc i < length starts →
    get_or (rows_from starts items) i [] ≡ take (get_or starts (suc i) 0 - get_or starts i 0) (drop (get_or starts i 0) items)
row_at [] items i h lt = absurd h
row_at (s ∷ []) items i h lt = absurd (omega arith)
row_at (s ∷ e ∷ starts) items zero h lt = refl
row_at (s ∷ e ∷ starts) items (suc i) h lt = row_at (e ∷ starts) items i h.1 (omega arith)

pub get_or-rows_from : {X : Type 0} (starts : List ℕ) (items : List X) (i : ℕ) → AreStarts starts items → i + 1 < length starts →
    get_or (rows_from starts items) i [] ≡ take (get_or starts (i + 1) 0 - get_or starts i 0) (drop (get_or starts i 0) items)
get_or-rows_from starts items i h lt = rw add-one (row_at starts items i h (omega arith))
