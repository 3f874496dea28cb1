-- A run of outputs that are shown is a part of the row of all texts.
use Rattle.std.proofs.Common.{◌≡◌, ℕ, zero, suc, ◌+◌, ◌-◌, ◌<◌, ◌≤◌, Bool, true, false, List, [], ◌∷◌, ◌++◌, take, drop, length, get_or, refl, sym, ap, ◌∙◌, append_assoc, append-nil, length-append, length-drop, inl, inr, arith}
use Rattle.std.proofs.Math.Seq.{drop-append_seam, drop-nil, get_or-append_seam, take-add, take-append_seam}
use Rattle.std.proofs.lemmas.List.{get_or_append_left, take-append-drop, take_more}
use Rattle.std.specs.Prelude.{if◌then◌else◌, nat_le, ◌⊎◌}
use Rattle.std.proofs.lemmas.Bool.Decides.{nat_tests}
use Rattle.asp_model.specs.declared.program.Output.{Output}
use Rattle.asp_model.specs.Sets.{Atoms}
use Rattle.asp_print.specs.Shown.{pieces}
use Rattle.asp_print.specs.Rows.{row, row_between, less_between, shown_first, shown_at}

-- ---- lists

drop_add : {A : Type 0} (n m : ℕ) (xs : List A) → drop (n + m) xs ≡ drop m (drop n xs)
drop_add zero m xs = let e : 0 + m ≡ m = omega arith in ap (λ k. drop k xs) e
drop_add {A = A} (suc n) m [] = drop-nil {A = A} (suc n + m) ∙ sym (drop-nil {A = A} m)
drop_add (suc n) m (x ∷ xs) = let e : suc n + m ≡ suc (n + m) = omega arith in rw e (drop_add n m xs)

drop_within : {A : Type 0} (n m : ℕ) (xs : List A) → n ≤ m → drop (m - n) (drop n xs) ≡ drop m xs
drop_within n m xs le = let e : n + (m - n) ≡ m = omega arith in sym (drop_add n (m - n) xs) ∙ ap (λ k. drop k xs) e

-- ---- what is shown

skip_first : (sep : ℕ) (S : Atoms) (any : Bool) (os : List Output) → shown_first S os ≡ false → pieces sep S any os ≡ pieces sep S any (drop 1 os)
skip_first sep S any [] h = refl
skip_first sep S true (o ∷ os) h = rw h refl
skip_first sep S false (o ∷ os) h = rw h refl

pub skipped : (sep : ℕ) (S : Atoms) (any : Bool) (os : List Output) (i : ℕ) → false ≡ shown_at S os i → pieces sep S any (drop (i + 1) os) ≡ pieces sep S any (drop i os)
skipped sep S any os i h = ap (pieces sep S any) (drop_add i 1 os) ∙ sym (skip_first sep S any (drop i os) (sym h))

take_first : (sep : ℕ) (S : Atoms) (os : List Output) → shown_first S os ≡ true → pieces sep S true os ≡ row sep (take 1 os) ++ pieces sep S true (drop 1 os)
take_first sep S [] h = cc
take_first sep S (o ∷ os) h = rw h (ap (λ (t : List ℕ). sep ∷ (t ++ pieces sep S true os)) (sym (append-nil o.text)))

row-append : (sep : ℕ) (xs ys : List Output) → row sep (xs ++ ys) ≡ row sep xs ++ row sep ys
row-append sep [] ys = refl
row-append sep (o ∷ xs) ys = ap (λ (t : List ℕ). sep ∷ (o.text ++ t)) (row-append sep xs ys) ∙ ap (λ (t : List ℕ). sep ∷ t) (sym (append_assoc o.text (row sep xs) (row sep ys)))

between-add : (sep : ℕ) (os : List Output) (from i : ℕ) → from ≤ i → row_between sep os from (i + 1) ≡ row_between sep os from i ++ row sep (take 1 (drop i os))
between-add sep os from i le =
    let e : i + 1 - from ≡ (i - from) + 1 = omega arith in
    ap (λ k. row sep (take k (drop from os))) e ∙ ap (row sep) (take-add (i - from) 1 (drop from os)) ∙ row-append sep (take (i - from) (drop from os)) _
    ∙ ap (λ (t : List Output). row_between sep os from i ++ row sep (take 1 t)) (drop_within from i os le)

pub run_more : (sep : ℕ) (S : Atoms) (os : List Output) (from i : ℕ) → from ≤ i → true ≡ shown_at S os i → pieces sep S true (drop from os) ≡ row_between sep os from i ++ pieces sep S true (drop i os)
    → pieces sep S true (drop from os) ≡ row_between sep os from (i + 1) ++ pieces sep S true (drop (i + 1) os)
run_more sep S os from i le shown h =
    h ∙ ap (λ (t : List ℕ). row_between sep os from i ++ t)
    (take_first sep S (drop i os) (sym shown) ∙ ap (λ (t : List Output). row sep (take 1 (drop i os)) ++ pieces sep S true t)
    (sym (drop_add i 1 os)))
    ∙ sym (append_assoc (row_between sep os from i) _ _) ∙ ap (λ (t : List ℕ). t ++ pieces sep S true (drop (i + 1) os)) (sym (between-add sep os from i le))

pub run_begins : (sep : ℕ) (S : Atoms) (os : List Output) (from : ℕ) → shown_at S os from ≡ true →
    pieces sep S true (drop from os) ≡ row_between sep os from (from + 1) ++ pieces sep S true (drop (from + 1) os)
run_begins sep S os from shown =
    let none : from - from ≡ 0 = omega arith in
    run_more sep S os from from (omega arith) (sym shown) (ap (λ k. row sep (take k (drop from os)) ++ pieces sep S true (drop from os)) (sym none))

first_blank : (sep : ℕ) (S : Atoms) (os : List Output) → shown_first S os ≡ true → pieces sep S true os ≡ sep ∷ pieces sep S false os
first_blank sep S [] h = cc
first_blank sep S (o ∷ os) h = rw h refl

less_first : (sep : ℕ) (other bytes rest : List ℕ) → sep ∷ other ≡ bytes ++ rest → 0 < length bytes → other ≡ drop 1 bytes ++ rest
less_first sep other [] rest e some = absurd (omega arith)
less_first sep other (b ∷ bytes) rest e some = cc

row_some : (sep : ℕ) (os : List Output) (k : ℕ) → 0 < k → 0 < length os → 0 < length (row sep (take k os))
row_some sep [] k some more = absurd (omega arith)
row_some sep (o ∷ os) zero some more = absurd (omega arith)
row_some sep (o ∷ os) (suc k) some more = omega arith

between_some : (sep : ℕ) (os : List Output) (from to : ℕ) → from < to → to ≤ length os → 0 < length (row_between sep os from to)
between_some sep os from to lt le = row_some sep (drop from os) (to - from) (omega arith) (omega (arith, length-drop from os))

pub run_turn : (sep : ℕ) (S : Atoms) (os : List Output) (any : Bool) (from to : ℕ) → shown_at S os from ≡ true → from < to → to ≤ length os
    → pieces sep S true (drop from os) ≡ row_between sep os from to ++ pieces sep S true (drop to os)
    → pieces sep S any (drop from os) ≡ less_between any (row_between sep os from to) ++ pieces sep S true (drop to os)
run_turn sep S os true from to shown lt le h = h
run_turn sep S os false from to shown lt le h = less_first sep _ _ _ (sym (first_blank sep S (drop from os) shown) ∙ h) (between_some sep os from to lt le)

-- ---- where the texts stand

row-split : (sep : ℕ) (os : List Output) (k : ℕ) → row sep os ≡ row sep (take k os) ++ row sep (drop k os)
row-split sep os k = ap (row sep) (sym (take-append-drop k os)) ∙ row-append sep (take k os) (drop k os)

take-to : (sep : ℕ) (os : List Output) (from to : ℕ) → from ≤ to → row sep (take to os) ≡ row sep (take from os) ++ row_between sep os from to
take-to sep os from to le =
    let e : to ≡ from + (to - from) = omega arith in
    ap (λ k. row sep (take k os)) e ∙ ap (row sep) (take-add from (to - from) os) ∙ row-append sep (take from os) _

pub row_parts : (sep : ℕ) (os : List Output) (from to : ℕ) → from ≤ to → row sep os ≡ row sep (take from os) ++ (row_between sep os from to ++ row sep (drop to os))
row_parts sep os from to le = row-split sep os to ∙ ap (λ (t : List ℕ). t ++ row sep (drop to os)) (take-to sep os from to le) ∙ append_assoc (row sep (take from os)) _ _

pub length-take-to : (sep : ℕ) (os : List Output) (from to : ℕ) → from ≤ to → length (row sep (take to os)) ≡ length (row sep (take from os)) + length (row_between sep os from to)
length-take-to sep os from to le = ap (λ (t : List ℕ). length t) (take-to sep os from to le) ∙ length-append (row sep (take from os)) _

-- ---- the table

pub same_at : (xs : List ℕ) (i d e : ℕ) → i < length xs → get_or xs i d ≡ get_or xs i e
same_at [] i d e lt = absurd (omega arith)
same_at (x ∷ xs) zero d e lt = refl
same_at (x ∷ xs) (suc i) d e lt = same_at xs i d e (omega arith)

middle : (front part rest bytes : List ℕ) (k n : ℕ) → bytes ≡ front ++ (part ++ rest) → k ≡ length front → n ≡ length part → take n (drop k bytes) ≡ part
middle front part rest bytes k n is at len = rw (is, at, len, drop-append_seam front (part ++ rest)) (take-append_seam part rest)

less_middle : (any : Bool) (front part rest bytes : List ℕ) (a b blank : ℕ) → bytes ≡ front ++ (part ++ rest) → a ≡ length front →
    b ≡ length front + length part → 0 < length part → blank ≡ (if any then 0 else 1)
    → take (b - (a + blank)) (drop (a + blank) bytes) ≡ less_between any part
less_middle true front part rest bytes a b blank is low high some none = middle front part rest bytes (a + blank) (b - (a + blank)) is (omega (arith, low, none)) (omega (arith, low, high, none))
less_middle false front [] rest bytes a b blank is low high some one = absurd (omega arith)
less_middle false front (x ∷ part) rest bytes a b blank is low high some one =
    middle (front ++ x ∷ []) part rest bytes (a + blank) (b - (a + blank)) (is ∙ sym (append_assoc front (x ∷ []) (part ++ rest)))
    (omega (arith, low, one, length-append front (x ∷ []))) (omega (arith, low, high, one))

-- where a run's texts stand
pub record IsRun (sep : ℕ) (os : List Output) (from to a b : ℕ) : Type 0 where
  pub low : a ≡ length (row sep (take from os))
  pub high : b ≡ length (row sep (take to os))
  pub some : from < to
  pub within : to ≤ length os

pub run_bounds : (sep : ℕ) (os : List Output) (from to a b : ℕ) (bytes : List ℕ) → IsRun sep os from to a b → bytes ≡ row sep os → (a + 1 ≤ b) × (b ≤ length bytes)
run_bounds sep os from to a b bytes r is =
    let le : from ≤ to = omega (arith, r.some) in
    let len = length-take-to sep os from to le in
    let some = between_some sep os from to r.some r.within in
    let whole = ap (λ (t : List ℕ). length t) (is ∙ row-split sep os to) ∙ length-append (row sep (take to os)) (row sep (drop to os)) in
    (omega (arith, r.low, r.high, len, some), omega (arith, r.high, whole))

pub run_part : (sep : ℕ) (any : Bool) (os : List Output) (from to a b blank : ℕ) (bytes : List ℕ) → IsRun sep os from to a b → bytes ≡ row sep os → blank ≡ (if any then 0 else 1)
    → take (b - (a + blank)) (drop (a + blank) bytes) ≡ less_between any (row_between sep os from to)
run_part sep any os from to a b blank bytes r is e =
    let le : from ≤ to = omega (arith, r.some) in
    less_middle any (row sep (take from os)) (row_between sep os from to) (row sep (drop to os)) bytes a b blank (is ∙ row_parts sep os from to le)
    r.low (r.high ∙ length-take-to sep os from to le) (between_some sep os from to r.some r.within) e

-- ---- one output more

pub row_more : (sep : ℕ) (os : List Output) (i : ℕ) (o : Output) (bytes : List ℕ) → i < length os → o ≡ get_or os i o → bytes ≡ row sep (take i os) →
    (bytes ++ sep ∷ []) ++ o.text ≡ row sep (take (i + 1) os)
row_more sep os i o bytes lt is e =
    rw e (append_assoc (row sep (take i os)) (sep ∷ []) o.text ∙ ap (λ (t : List ℕ). row sep (take i os) ++ (sep ∷ t)) (sym (append-nil o.text))
    ∙ sym (ap (row sep) (take_more os i o lt ∙ ap (λ (x : Output). take i os ++ x ∷ []) (sym is)) ∙ row-append sep (take i os) (o ∷ [])))

pub starts_more : (sep : ℕ) (os : List Output) (i n : ℕ) (starts : List ℕ) → length starts ≡ i + 1 →
    ((k : ℕ) → k ≤ i → get_or starts k 0 ≡ length (row sep (take k os))) → n ≡ length (row sep (take (i + 1) os))
    → (k : ℕ) → k ≤ i + 1 → get_or (starts ++ n ∷ []) k 0 ≡ length (row sep (take k os))
starts_more sep os i n starts len before is k le = elim (cases_le k i le) as (λ _. get_or (starts ++ n ∷ []) k 0 ≡ length (row sep (take k os))) [
  | inl low ↦ get_or_append_left starts (n ∷ []) 0 k (omega (arith, low, len)) ∙ before k low
  | inr at ↦
      let here : k ≡ length starts = omega (arith, at, len) in
      ap (λ (j : ℕ). get_or (starts ++ n ∷ []) j 0) here ∙ get_or-append_seam starts n [] 0 ∙ is ∙ ap (λ (j : ℕ). length (row sep (take j os))) (sym at)
]
  where
    cases_le : (k i : ℕ) → k ≤ i + 1 → (k ≤ i) ⊎ (k ≡ i + 1)
    cases_le k i le = elim (nat_le k i) as (λ t. nat_le k i ≡ t → (k ≤ i) ⊎ (k ≡ i + 1)) [
      | true ↦ λ e. inl (grind (arith, nat_tests))
      | false ↦ λ e. inr (grind (arith, nat_tests))
    ] refl
