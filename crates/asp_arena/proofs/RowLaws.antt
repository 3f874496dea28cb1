-- Rows through each change of the spans and of the cells.
use Rattle.std.proofs.Common.{◌≡◌, ◌≢◌, ℕ, zero, suc, ◌+◌, ◌-◌, ◌<◌, ◌≤◌, List, [], ◌∷◌, ◌++◌, length, get_or, set, take, drop, map, true, inl, inr, refl, sym, ap, ◌∙◌, subst, arith}
use Rattle.std.specs.List.{swap}
use Rattle.std.proofs.lemmas.List.{length-drop, length-take-le, map-append, map-set, drop_at, drop-append-le, drop-set-lt, drop-set-add, take-append-le, take-set-le, take_all, get_or-take, get_or-drop, get_or-map, get_or_default}
use Rattle.std.proofs.lemmas.List.Edits.{swap_is}
use Rattle.asp_vars.specs.Literals.{Literal}
use Rattle.asp_arena.specs.declared.span.Span.{Span}
use Rattle.asp_arena.specs.Rows.{cells_of, rows_of, AreApart, AreSpans}
use Rattle.asp_arena.proofs.SpanLaws.{apart_at}

-- ---- the cells of one span
cells_of-append : (cells lits : List Literal) (s : Span) → s.start + s.len ≤ length cells → cells_of (cells ++ lits) s ≡ cells_of cells s
cells_of-append cells lits s h =
    ap (take s.len) (drop-append-le s.start cells lits (omega arith))
    ∙ take-append-le s.len (drop s.start cells) lits (omega (arith, length-drop s.start cells))

cells_of-new : (cells lits : List Literal) (s : Span) → s.start ≡ length cells → s.len ≡ length lits → cells_of (cells ++ lits) s ≡ lits
cells_of-new cells lits s a b = ap (take s.len) (drop_at cells lits s.start (sym a)) ∙ take_all s.len lits (omega (arith, b))

length-cells_of : (cells : List Literal) (s : Span) → s.start + s.len ≤ length cells → length (cells_of cells s) ≡ s.len
length-cells_of cells s h = length-take-le s.len (drop s.start cells) (omega (arith, length-drop s.start cells))

take_set : {X : Type 0} (n : ℕ) (xs : List X) (i : ℕ) (y : X) → i < n → take n (set xs i y) ≡ set (take n xs) i y
take_set zero xs i y h = absurd (omega arith)
take_set (suc n) [] i y h = refl
take_set (suc n) (x ∷ xs) zero y h = refl
take_set (suc n) (x ∷ xs) (suc i) y h = ap (λ ys. x ∷ ys) (take_set n xs i y (omega arith))

-- a write into the span
cells_of-set_in : (cells : List Literal) (s : Span) (i : ℕ) (y : Literal) → i < s.len → cells_of (set cells (s.start + i) y) s ≡ set (cells_of cells s) i y
cells_of-set_in cells s i y h = ap (take s.len) (drop-set-add s.start cells i y) ∙ take_set s.len (drop s.start cells) i y h

-- a write into another one
cells_of-set_out : (cells : List Literal) (s t : Span) (i : ℕ) (y : Literal) → AreApart t s → i < s.len → cells_of (set cells (s.start + i) y) t ≡ cells_of cells t
cells_of-set_out cells s t i y a h = cases a
  where
    cases : AreApart t s → cells_of (set cells (s.start + i) y) t ≡ cells_of cells t
    cases (inl le) =
        let k : t.start + (s.start + i - t.start) ≡ s.start + i = omega arith in
        ap (λ (n : ℕ). cells_of (set cells n y) t) (sym k)
        ∙ (ap (take t.len) (drop-set-add t.start cells (s.start + i - t.start) y) ∙ take-set-le t.len (drop t.start cells) (s.start + i - t.start) y (omega arith))
    cases (inr le) = ap (take t.len) (drop-set-lt t.start cells (s.start + i) y (omega arith))

cells_of-at : (cells : List Literal) (s : Span) (i : ℕ) (d : Literal) → i < s.len → get_or (cells_of cells s) i d ≡ get_or cells (s.start + i) d
cells_of-at cells s i d h = get_or-take s.len (drop s.start cells) i d h ∙ get_or-drop s.start cells i d

any : Literal
any = record { var = 0; truth = true }

-- two cells of the span change places
cells_of-swap_in : (cells : List Literal) (s : Span) (i j : ℕ) → s.start + s.len ≤ length cells → i < s.len → j < s.len →
    cells_of (swap cells (s.start + i) (s.start + j)) s ≡ swap (cells_of cells s) i j
cells_of-swap_in cells s i j w hi hj =
    let x : Literal = get_or cells (s.start + i) any in
    let y : Literal = get_or cells (s.start + j) any in
    let n : length (cells_of cells s) ≡ s.len = length-cells_of cells s w in
    ap (λ (cs : List Literal). cells_of cs s) (sym (swap_is cells (s.start + i) (s.start + j) any (omega arith) (omega arith)))
    ∙ (cells_of-set_in (set cells (s.start + i) y) s j x hj
    ∙ (ap (λ (cs : List Literal). set cs j x) (cells_of-set_in cells s i y hi)
    ∙ (ap (λ (z : Literal). set (set (cells_of cells s) i z) j x) (sym (cells_of-at cells s j any hj))
    ∙ (ap (λ (z : Literal). set (set (cells_of cells s) i (get_or (cells_of cells s) j any)) j z) (sym (cells_of-at cells s i any hi))
    ∙ swap_is (cells_of cells s) i j any (omega (arith, n, hi)) (omega (arith, n, hj))))))

cells_of-swap_out : (cells : List Literal) (s t : Span) (i j : ℕ) → AreApart t s → s.start + s.len ≤ length cells → i < s.len → j < s.len →
    cells_of (swap cells (s.start + i) (s.start + j)) t ≡ cells_of cells t
cells_of-swap_out cells s t i j a w hi hj =
    let x : Literal = get_or cells (s.start + i) any in
    let y : Literal = get_or cells (s.start + j) any in
    ap (λ (cs : List Literal). cells_of cs t) (sym (swap_is cells (s.start + i) (s.start + j) any (omega arith) (omega arith)))
    ∙ (cells_of-set_out (set cells (s.start + i) y) s t j x a hj ∙ cells_of-set_out cells s t i y a hi)

-- ---- all rows
map_same : {A B : Type 0} (f g : A → B) (xs : List A) → ((k : ℕ) (d : A) → k < length xs → g (get_or xs k d) ≡ f (get_or xs k d)) → map g xs ≡ map f xs
map_same f g [] h = refl
map_same f g (x ∷ xs) h =
    let here : g x ≡ f x = h zero x (omega arith) in
    let rest = map_same f g xs (λ k d lt. h (suc k) d (omega (arith, lt))) in
    λ i. here i ∷ rest i

map_but_one : {A B : Type 0} (f g : A → B) (xs : List A) (id : ℕ) (d : A) → id < length xs → ((k : ℕ) (e : A) → k < length xs → k ≢ id → g (get_or xs k e) ≡ f (get_or xs k e)) →
    map g xs ≡ set (map f xs) id (g (get_or xs id d))
map_but_one f g [] id d lt h = absurd (omega arith)
map_but_one f g (x ∷ xs) zero d lt h =
    let rest = map_same f g xs (λ k e l. h (suc k) e (omega (arith, l)) (λ q. omega (arith, q))) in
    λ i. g x ∷ rest i
map_but_one f g (x ∷ xs) (suc id) d lt h =
    let here : g x ≡ f x = h zero x (omega arith) (λ q. omega (arith, q)) in
    let rest = map_but_one f g xs id d (omega arith) (λ k e l ne. h (suc k) e (omega (arith, l)) (λ q. ne (omega (arith, q)))) in
    λ i. here i ∷ rest i

rows_append : (spans : List Span) (cells lits : List Literal) → AreSpans spans cells → rows_of spans (cells ++ lits) ≡ rows_of spans cells
rows_append spans cells lits h = map_same (cells_of cells) (cells_of (cells ++ lits)) spans (λ k d lt. cells_of-append cells lits (get_or spans k d) (h.within k d lt))

-- a row is put behind all others
pub rows_put : (spans : List Span) (cells lits : List Literal) (id : ℕ) (s : Span) → AreSpans spans cells → s.start ≡ length cells → s.len ≡ length lits →
    rows_of (set spans id s) (cells ++ lits) ≡ set (rows_of spans cells) id lits
rows_put spans cells lits id s h a b =
    map-set (cells_of (cells ++ lits)) spans id s
    ∙ (ap (λ (rows : List (List Literal)). set rows id (cells_of (cells ++ lits) s)) (rows_append spans cells lits h)
    ∙ ap (set (rows_of spans cells) id) (cells_of-new cells lits s a b))

pub rows_push : (spans : List Span) (cells lits : List Literal) (s : Span) → AreSpans spans cells → s.start ≡ length cells → s.len ≡ length lits →
    rows_of (spans ++ s ∷ []) (cells ++ lits) ≡ rows_of spans cells ++ lits ∷ []
rows_push spans cells lits s h a b =
    map-append (cells_of (cells ++ lits)) spans (s ∷ [])
    ∙ (ap (λ (rows : List (List Literal)). rows ++ cells_of (cells ++ lits) s ∷ []) (rows_append spans cells lits h)
    ∙ ap (λ (row : List Literal). rows_of spans cells ++ row ∷ []) (cells_of-new cells lits s a b))

-- a row that isn't empty is of a number that was given out
within_rows : (spans : List Span) (cells : List Literal) (id i : ℕ) → i < length (get_or (rows_of spans cells) id []) → id < length spans
within_rows [] cells id i h = absurd (omega arith)
within_rows (s ∷ spans) cells zero i h = omega arith
within_rows (s ∷ spans) cells (suc id) i h = omega (arith, within_rows spans cells id i h)

-- two literals of a row change places
pub rows_swap : (spans : List Span) (cells : List Literal) (id i j : ℕ) (s : Span) → AreSpans spans cells → s ≡ get_or spans id s →
    i < length (get_or (rows_of spans cells) id []) → j < length (get_or (rows_of spans cells) id []) →
    rows_of spans (swap cells (s.start + i) (s.start + j)) ≡ set (rows_of spans cells) id (swap (get_or (rows_of spans cells) id []) i j)
rows_swap spans cells id i j s h e hi hj =
    let lt : id < length spans = within_rows spans cells id i hi in
    let w : s.start + s.len ≤ length cells = subst (λ (x : Span). x.start + x.len ≤ length cells) (sym e) (h.within id s lt) in
    let row : get_or (rows_of spans cells) id [] ≡ cells_of cells s = get_or-map (cells_of cells) spans id s [] lt ∙ ap (cells_of cells) (sym e) in
    let n : length (get_or (rows_of spans cells) id []) ≡ s.len = ap length row ∙ length-cells_of cells s w in
    let li : i < s.len = omega (arith, hi, n) in
    let lj : j < s.len = omega (arith, hj, n) in
    map_but_one (cells_of cells) (cells_of (swap cells (s.start + i) (s.start + j))) spans id s lt (λ k d l ne. cells_of-swap_out cells s (get_or spans k d) i j (out k d lt l ne) w li lj)
    ∙ (ap (λ (x : Span). set (rows_of spans cells) id (cells_of (swap cells (s.start + i) (s.start + j)) x)) (sym e)
    ∙ (ap (set (rows_of spans cells) id) (cells_of-swap_in cells s i j w li lj)
    ∙ ap (λ (r : List Literal). set (rows_of spans cells) id (swap r i j)) (sym row)))
  where
    out : (k : ℕ) (d : Span) → id < length spans → k < length spans → k ≢ id → AreApart (get_or spans k d) s
    out k d lt l ne = subst (λ (x : Span). AreApart (get_or spans k d) x) (get_or_default spans id d s lt ∙ sym e) (apart_at spans cells k id d h l lt ne)
