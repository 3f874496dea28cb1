-- Where on a line a fault is.
use Rattle.std.proofs.Common.{◌≡◌, ℕ, suc, ◌≤◌, true, false, cond, List, [], ◌∷◌, length, take, Result, Ok, Err, arith}
use Rattle.std.specs.Prelude.{if◌then◌else◌, filter}
use Rattle.std.proofs.lemmas.List.{length-take}
use Rattle.asp_text.specs.Fields.{is_blank, is_some_field, cut_at_blanks, fields_of}
use Rattle.asp_text.specs.Lines.{onto}
use Rattle.asp_read.specs.declared.error.FaultAt.{FaultAt}
use Rattle.asp_read.specs.Places.{told_of}

-- a line that was read is the same with or without its faults' places
pub told_ok : {A : Type 0} (line : List ℕ) (read : Result A FaultAt) (x : A) → told_of line read ≡ Ok x → read ≡ Ok x
told_ok line (Ok y) x e = cc
told_ok line (Err b) x e = absurd cc

-- ---- a line has no more fields than bytes

abbrev filled : List (List ℕ) → ℕ
filled pieces = length (filter is_some_field pieces)

-- a piece more is a field more or none
one_more : (p : List ℕ) (ps : List (List ℕ)) → (filled ps ≤ filled (p ∷ ps)) × (filled (p ∷ ps) ≤ suc (filled ps))
one_more p ps = elim (is_some_field p) as (λ v. (filled ps ≤ length (cond v (p ∷ filter is_some_field ps) (filter is_some_field ps))) ×
    (length (cond v (p ∷ filter is_some_field ps) (filter is_some_field ps)) ≤ suc (filled ps)))
    [ true ↦ (omega arith, omega arith) | false ↦ (omega arith, omega arith) ]

longer : (b : ℕ) (ps : List (List ℕ)) → filled (onto b ps) ≤ suc (filled ps)
longer b [] = (one_more (b ∷ []) []).1
longer b (p ∷ ps) = omega (arith, (one_more (b ∷ p) ps).1, (one_more p ps).0)

few_fields : (line : List ℕ) → length (fields_of line) ≤ length line
few_fields [] = omega arith
few_fields (b ∷ bs) = elim (is_blank b) as (λ v. filled (if v then [] ∷ cut_at_blanks bs else onto b (cut_at_blanks bs)) ≤ suc (length bs)) [
  | true ↦ omega (arith, (one_more [] (cut_at_blanks bs)).1, few_fields bs)
  | false ↦ omega (arith, longer b (cut_at_blanks bs), few_fields bs)
]

pub few_in_front : (n : ℕ) (line : List ℕ) → length (fields_of (take n line)) ≤ length line
few_in_front n line = omega (arith, few_fields (take n line), length-take n line)
