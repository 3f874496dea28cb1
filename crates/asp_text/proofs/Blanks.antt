-- The fields of a line, one by one.
use Rattle.std.proofs.Common.{◌≡◌, ℕ, suc, ◌+◌, ◌<◌, true, false, cond, List, [], ◌∷◌, length, take, drop, refl, ap, ◌∙◌, arith}
use Rattle.std.specs.Prelude.{not, filter}
use Rattle.std.specs.List.{position_or_len, before_first}
use Rattle.std.proofs.lemmas.Bool.{lt-ltb}
use Rattle.asp_text.specs.Fields.{is_blank, is_filled, unblank, field_of, after_field, cut_at_blanks, is_some_field, fields_of}

-- blanks at the front change nothing
fields_unblank : (line : List ℕ) → fields_of line ≡ fields_of (unblank line)
fields_unblank [] = refl
fields_unblank (b ∷ bs) = (elim (is_blank b) as (λ v. is_blank b ≡ v → fields_of (b ∷ bs) ≡ fields_of (drop (cond (not (not v)) (1 + position_or_len is_filled bs) 0) (b ∷ bs))) [
  | true ↦ λ h.
      let e : 1 + position_or_len is_filled bs ≡ suc (position_or_len is_filled bs) = omega arith in
      rw (h, e) (fields_unblank bs)
  | false ↦ λ h. refl
]) refl

-- what stands before the first blank, and the pieces behind it
record Front (line : List ℕ) : Type 0 where
  more : List (List ℕ)
  parts : cut_at_blanks line ≡ before_first is_blank line ∷ more
  same : filter is_some_field more ≡ fields_of (drop (position_or_len is_blank line) line)

front : (line : List ℕ) → Front line
front [] = record { more = []; parts = refl; same = refl }
front (b ∷ bs) = (elim (is_blank b) as (λ v. is_blank b ≡ v → Front (b ∷ bs)) [
  | true ↦ λ h. record { more = cut_at_blanks bs; parts = rw h refl; same = rw (h, h) refl }
  | false ↦ λ h.
      let f = front bs in
      let e : 1 + position_or_len is_blank bs ≡ suc (position_or_len is_blank bs) = omega arith in
      record { more = f.more; parts = rw (h, f.parts, e) refl; same = rw (h, e) f.same }
]) refl

pub some_field : (line : List ℕ) → 0 < length (field_of line) → fields_of line ≡ field_of line ∷ fields_of (after_field line)
some_field line lt =
    let f = front (unblank line) in
    let t : is_some_field (field_of line) ≡ true = lt-ltb _ _ lt in
    fields_unblank line ∙ rw (f.parts, t, f.same) refl

-- where there is no field
none_left : (line : List ℕ) → length (field_of line) ≡ 0 → unblank line ≡ []
none_left [] e = refl
none_left (b ∷ bs) e = (elim (is_blank b) as (λ v. is_blank b ≡ v → length (field_of (b ∷ bs)) ≡ 0 → unblank (b ∷ bs) ≡ []) [
  | true ↦ λ h zero.
      let k : 1 + position_or_len is_filled bs ≡ suc (position_or_len is_filled bs) = omega arith in
      rw (h, k) (none_left bs (rw (h, k) at zero))
  | false ↦ λ h zero.
      let k : 1 + position_or_len is_blank bs ≡ suc (position_or_len is_blank bs) = omega arith in
      let some : suc (length (take (position_or_len is_blank bs) bs)) ≡ 0 = rw (h, h, k) at zero in
      absurd (omega (arith, some))
]) refl e

pub no_fields : (line : List ℕ) → length (field_of line) ≡ 0 → (fields_of line ≡ []) × (fields_of (after_field line) ≡ [])
no_fields line e =
    let none = none_left line e in
    (fields_unblank line ∙ ap fields_of none, rw none refl)
