-- What is written, and what is left out.
use Rattle.std.proofs.Common.{◌≡◌, ◌⊎◌, ℕ, ◌+◌, ◌-◌, ◌<◌, ◌≤◌, ◌^◌, Bool, true, false, List, [], ◌∷◌, ◌++◌, length, map, get_or, take, drop, refl, sym, ap, ◌∙◌, subst, inl, inr, arith, append_assoc, append-nil, length-append, length-take-le}
use Rattle.std.specs.Prelude.{nat_le}
use Rattle.std.proofs.lemmas.Bool.{leb-false, leb-true}
use Rattle.std.proofs.lemmas.List.{map_more, take-append-drop, take-map, take_all, take_at}
use mathlib.Core.List.{IsPrefix}
use Rattle.asp_model.specs.Sets.{Atoms}
use Rattle.asp_rows.specs.declared.row.Row.{Row}
use Rattle.asp_rows.specs.Listed.{Listed}
use Rattle.asp_limit.specs.Limits.{heard_of, left_out}

module _ {A : Type 0} where
  -- the first of what comes next
  abbrev pub prefix-cut : (xs ys zs : List A) (n : ℕ) → IsPrefix (xs ++ ys) zs → IsPrefix (xs ++ take n ys) zs
  prefix-cut xs ys zs n h = (
    drop n ys ++ h.0,
    append_assoc xs (take n ys) (drop n ys ++ h.0)
        ∙ ap (λ (t : List A). xs ++ t) (sym (append_assoc (take n ys) (drop n ys) h.0))
        ∙ ap (λ (t : List A). xs ++ (t ++ h.0)) (take-append-drop n ys)
        ∙ sym (append_assoc xs ys h.0) ∙ h.1,
  )

  -- what is written and what is left out, one after the other, where nothing was left out before or nothing is written
  pub parted : (xs ys rows : List A) (n : ℕ) → (ys ≡ []) ⊎ (n ≡ 0) → (xs ++ take n rows) ++ (ys ++ drop n rows) ≡ (xs ++ ys) ++ rows
  parted xs ys rows n (inl e) =
      ap (λ (t : List A). (xs ++ take n rows) ++ (t ++ drop n rows)) e
      ∙ append_assoc xs (take n rows) (drop n rows)
      ∙ ap (λ (t : List A). xs ++ t) (take-append-drop n rows)
      ∙ sym (ap (λ (t : List A). t ++ rows) (ap (λ (t : List A). xs ++ t) e ∙ append-nil xs))
  parted xs ys rows n (inr e) =
      ap (λ (k : ℕ). (xs ++ take k rows) ++ (ys ++ drop k rows)) e
      ∙ ap (λ (t : List A). t ++ (ys ++ rows)) (append-nil xs)
      ∙ sym (append_assoc xs ys rows)

  none-of : (xs : List A) → length xs ≡ 0 → xs ≡ []
  none-of [] e = refl
  none-of (x ∷ xs) e = let f : ⊥ = omega (arith, e) in absurd f

  drop-at : (xs ys : List A) → drop (length xs) (xs ++ ys) ≡ ys
  drop-at [] ys = refl
  drop-at (x ∷ xs) ys = drop-at xs ys

  length-drop : (n : ℕ) (xs : List A) → n ≤ length xs → length (drop n xs) ≡ length xs - n
  length-drop n xs le =
      let both : length (take n xs) + length (drop n xs) ≡ length xs = sym (length-append (take n xs) (drop n xs)) ∙ ap length (take-append-drop n xs) in
      omega (arith, both, length-take-le n xs le)

  -- some were left out before
  still-more : (n : ℕ) (xs rows rest : List A) → xs ≡ (take n xs ++ rows) ++ rest → take (n + length rows) xs ≡ take n xs ++ rows
  still-more n xs rows rest is = by (nat_le n (length xs)) refl
    where
      by : (b : Bool) → nat_le n (length xs) ≡ b → take (n + length rows) xs ≡ take n xs ++ rows
      by true e =
          let count : length (take n xs ++ rows) ≡ n + length rows = length-append (take n xs) rows ∙ ap (λ (k : ℕ). k + length rows) (length-take-le n xs (leb-true n (length xs) e)) in
          ap (take (n + length rows)) is ∙ take_at (take n xs ++ rows) rest (n + length rows) count
      by false e =
          let all : take n xs ≡ xs = take_all n xs (let less = leb-false n (length xs) e in omega (arith, less)) in
          let count : length xs ≡ (length (take n xs) + length rows) + length rest =
          ap length is ∙ length-append (take n xs ++ rows) rest ∙ ap (λ (k : ℕ). k + length rest) (length-append (take n xs) rows) in
          let none : rows ≡ [] = none-of rows (omega (arith, count, ap length all)) in
          ap (λ (k : ℕ). take k xs) (let same : n + length rows ≡ n = omega (arith, ap length none) in same) ∙ sym (append-nil (take n xs)) ∙ ap (λ (t : List A). take n xs ++ t) (sym none)

  -- what is left out then
  pub left-more : (written rows all : List A) (n k : ℕ) → IsPrefix ((written ++ take n (drop (length written) all)) ++ rows) all → (n ≡ 0) ⊎ (k ≡ 0) → k ≤ length rows
      → take (n + (length rows - k)) (drop (length (written ++ take k rows)) all) ≡ take n (drop (length written) all) ++ drop k rows
  left-more written rows all n k front (inl none) le =
      let follows : (written ++ take n (drop (length written) all)) ++ rows ≡ written ++ rows =
      ap (λ (m : ℕ). (written ++ take m (drop (length written) all)) ++ rows) none ∙ ap (λ (t : List A). t ++ rows) (append-nil written) in
      let first : IsPrefix (written ++ take k rows) all = prefix-cut written rows all k (front.0, ap (λ (t : List A). t ++ front.0) (sym follows) ∙ front.1) in
      let rest : drop (length (written ++ take k rows)) all ≡ drop k rows ++ front.0 =
      ap (drop (length (written ++ take k rows))) (sym first.1) ∙ drop-at (written ++ take k rows) first.0 in
      ap (λ (m : ℕ). take m (drop (length (written ++ take k rows)) all)) (let same : n + (length rows - k) ≡ length rows - k = omega (arith, none) in same)
      ∙ ap (take (length rows - k)) rest
      ∙ take_at (drop k rows) front.0 (length rows - k) (length-drop k rows le)
      ∙ sym (ap (λ (m : ℕ). take m (drop (length written) all) ++ drop k rows) none)
  left-more written rows all n k front (inr none) le =
      let xs : List A = drop (length written) all in
      let is : xs ≡ (take n xs ++ rows) ++ front.0 =
      ap (drop (length written)) (sym front.1)
      ∙ ap (drop (length written)) (ap (λ (t : List A). t ++ front.0) (append_assoc written (take n xs) rows) ∙ append_assoc written (take n xs ++ rows) front.0)
      ∙ drop-at written ((take n xs ++ rows) ++ front.0) in
      ap (λ (m : ℕ). take (n + (length rows - m)) (drop (length (written ++ take m rows)) all)) none
      ∙ ap (λ (t : List A). take (n + (length rows - 0)) (drop (length t) all)) (append-nil written)
      ∙ ap (λ (m : ℕ). take (n + m) xs) (let same : length rows - 0 ≡ length rows = omega arith in same)
      ∙ still-more n xs rows front.0 is
      ∙ sym (ap (λ (m : ℕ). take n xs ++ drop m rows) none)

  -- how many are left out then can be counted
  pub left-fits : (written rows all : List A) (n k most : ℕ) → IsPrefix ((written ++ take n (drop (length written) all)) ++ rows) all
      → length (written ++ take n (drop (length written) all)) + length rows + 1 < most → n < most → n + (length rows - k) < most
  left-fits written rows all n k most front room small = by (nat_le n (length (drop (length written) all))) refl
    where
      whole : length all ≡ (length (written ++ take n (drop (length written) all)) + length rows) + length front.0
      whole = ap length (sym front.1) ∙ length-append ((written ++ take n (drop (length written) all)) ++ rows) front.0
          ∙ ap (λ (m : ℕ). m + length front.0) (length-append (written ++ take n (drop (length written) all)) rows)

      is : (drop (length written) all) ≡ (take n (drop (length written) all) ++ rows) ++ front.0
      is = ap (drop (length written)) (sym front.1)
          ∙ ap (drop (length written)) (ap (λ (t : List A). t ++ front.0) (append_assoc written (take n (drop (length written) all)) rows)
          ∙ append_assoc written (take n (drop (length written) all) ++ rows) front.0)
          ∙ drop-at written ((take n (drop (length written) all) ++ rows) ++ front.0)

      by : (b : Bool) → nat_le n (length (drop (length written) all)) ≡ b → n + (length rows - k) < most
      by true e = omega (arith, room, length-append written (take n (drop (length written) all)), length-take-le n (drop (length written) all) (leb-true n (length (drop (length written) all)) e))
      by false e =
          let all-taken : take n (drop (length written) all) ≡ (drop (length written) all) =
          take_all n (drop (length written) all) (let less = leb-false n (length (drop (length written) all)) e in omega (arith, less)) in
          let count : length (drop (length written) all) ≡ (length (take n (drop (length written) all)) + length rows) + length front.0 =
          ap length is ∙ length-append (take n (drop (length written) all) ++ rows) front.0
          ∙ ap (λ (m : ℕ). m + length front.0) (length-append (take n (drop (length written) all)) rows) in
          omega (arith, count, ap length all-taken, small)

-- one set more is copied
pub front-more : (atoms : Atoms) (old new : Listed) (rows : List Row) (sets : List Atoms) (place : ℕ) (row : Row) (set : Atoms)
    → map (λ (x : Row). x.set) rows ≡ sets → row ≡ get_or rows place row → place < length rows
    → set ≡ row.set → old ≡ record { atoms = atoms; sets = take place sets } → new ≡ record old { sets = old.sets ++ set ∷ [] } → new ≡ record { atoms = atoms; sets = take (place + 1) sets }
front-more atoms old new rows sets place row set are is within same was now =
    let f : Row → Atoms = λ (x : Row). x.set in
    let more : take (place + 1) sets ≡ take place sets ++ set ∷ [] =
    ap (take (place + 1)) (sym are) ∙ take-map f (place + 1) rows ∙ map_more f rows place row within
    ∙ ap (λ (t : List Atoms). t ++ f (get_or rows place row) ∷ []) (sym (take-map f place rows) ∙ ap (take place) are)
    ∙ ap (λ (S : Atoms). take place sets ++ S ∷ []) (ap f (sym is) ∙ sym same) in
    now ∙ ap (λ (l : Listed). record l { sets = l.sets ++ set ∷ [] }) was ∙ ap (λ (Ss : List Atoms). record { atoms = atoms; sets = Ss }) (sym more)

-- what was heard then
pub heard-more : (all seen old new rows : List Atoms) (n m k count : ℕ) → seen ≡ all → new ≡ old ++ take k rows → m ≡ n → count ≡ length rows → IsPrefix (heard_of all old n ++ rows) all
    → (n ≡ 0) ⊎ (k ≡ 0) → k ≤ length rows → heard_of seen new (m + (count - k)) ≡ heard_of all old n ++ rows
heard-more all seen old new rows n m k count same now kept counted front order le =
    ap (λ (x : List Atoms). heard_of x new (m + (count - k))) same
    ∙ ap (λ (Ss : List Atoms). heard_of all Ss (m + (count - k))) now
    ∙ ap (λ (j : ℕ). heard_of all (old ++ take k rows) j) (let sum : m + (count - k) ≡ n + (length rows - k) = omega (arith, kept, counted) in sum)
    ∙ ap (λ (Ss : List Atoms). (old ++ take k rows) ++ Ss) (left-more old rows all n k front order le)
    ∙ parted old (left_out all old n) rows k (by order)
  where
    by : (n ≡ 0) ⊎ (k ≡ 0) → (left_out all old n ≡ []) ⊎ (k ≡ 0)
    by (inl none) = inl (ap (λ (j : ℕ). left_out all old j) none)
    by (inr none) = inr none

pub fits-more : (all old rows : List Atoms) (n k count : ℕ) → IsPrefix (heard_of all old n ++ rows) all → length (heard_of all old n) + length rows + 1 < 2 ^ 64 → n < 2 ^ 64
    → count ≡ length rows → n + (count - k) < 2 ^ 64
fits-more all old rows n k count front room small counted = subst (λ (j : ℕ). n + (j - k) < 2 ^ 64) (sym counted) (left-fits old rows all n k (2 ^ 64) front room small)
