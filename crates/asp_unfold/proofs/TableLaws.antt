-- What a table of definitions says of literals.
use Rattle.std.proofs.Common.{◌≡◌, ℕ, ◌+◌, ◌*◌, ◌<◌, min, true, false, ltb, List, [], ◌∷◌, map, length, refl, sym, ap, ◌∙◌, ℤ, inl, inr, Option, Some, None, arith}
use Rattle.std.specs.List.{All}
use Rattle.std.proofs.lemmas.Bool.{cases_lt, cond-false, cond-true, le-ltb, lt-ltb}
use Rattle.std.proofs.lemmas.List.{get_or_past}
use Rattle.std.proofs.lemmas.List.Elements.{All-head, All-tail}
use Rattle.asp_model.specs.declared.program.Minimize.{Minimize}
use Rattle.asp_model.specs.declared.program.Rule.{Rule}
use Rattle.asp_model.specs.Holding.{atom_of}
use Rattle.asp_unfold.specs.declared.table.Definition.{Definition}
use Rattle.asp_unfold.specs.declared.table.Definition.TheVariants.{Other}
use Rattle.asp_unfold.specs.Tables.{AreDefinitions, definition_by, definition_of, literal_in, table_items, table_literal, table_minimize}
use Rattle.asp_unfold.specs.Unfolded.{literal_by, literal_of, replaced, rules_for, unfolded_literal, unfolded_minimize}

-- ---- the literals of items
literal-defined : (rs : List Rule) → literal_in (definition_of rs) ≡ literal_of rs
literal-defined [] = refl
literal-defined (r ∷ []) = by (literal_by r.head r.body)
  where
    by : (o : Option ℤ) → literal_in (definition_by o) ≡ o
    by None = refl
    by (Some m) = refl
literal-defined (r ∷ s ∷ rs) = refl

table-says : (rules : List Rule) (table : List Definition) (above : ℕ) (l : ℤ) → AreDefinitions rules table →
    length table ≡ min above (16 * (length rules + 1)) → atom_of l < above → table_literal table l ≡ unfolded_literal rules l
table-says rules table above l are len low = elim (cases_lt (atom_of l) (length table)) [
  | inl within ↦ (
      let near : ltb (atom_of l) (16 * (length rules + 1)) ≡ true = lt-ltb (atom_of l) (16 * (length rules + 1)) (omega (arith, within, len)) in
      ap (λ (d : Definition). replaced l (literal_in d)) (are (atom_of l) within)
      ∙ (ap (replaced l) (literal-defined (rules_for (atom_of l) rules))
      ∙ sym (cond-true (ltb (atom_of l) (16 * (length rules + 1))) (replaced l (literal_of (rules_for (atom_of l) rules))) l near)))
  | inr past ↦ (
      let far : ltb (atom_of l) (16 * (length rules + 1)) ≡ false = le-ltb (atom_of l) (16 * (length rules + 1)) (omega (arith, past, len, low)) in
      ap (λ (d : Definition). replaced l (literal_in d)) (get_or_past table (atom_of l) Other past)
      ∙ sym (cond-false (ltb (atom_of l) (16 * (length rules + 1))) (replaced l (literal_of (rules_for (atom_of l) rules))) l far))
]

items-are : (rules : List Rule) (table : List Definition) (above : ℕ) (items : List (ℤ × ℤ)) → AreDefinitions rules table →
    length table ≡ min above (16 * (length rules + 1)) → All (λ (i : ℤ × ℤ). atom_of i.0 < above) items
    → table_items table items ≡ map (λ (i : ℤ × ℤ). (unfolded_literal rules i.0, i.1)) items
items-are rules table above [] are len low = refl
items-are rules table above (i ∷ items) are len low =
    let first = All-head (λ (i : ℤ × ℤ). atom_of i.0 < above) i items low in
    let rest = All-tail (λ (i : ℤ × ℤ). atom_of i.0 < above) i items low in
    ap (λ (l : ℤ). (l, i.1) ∷ table_items table items) (table-says rules table above i.0 are len first)
    ∙ ap (λ (xs : List (ℤ × ℤ)). (unfolded_literal rules i.0, i.1) ∷ xs) (items-are rules table above items are len rest)

pub statements-are : (rules : List Rule) (table : List Definition) (above : ℕ) (ms : List Minimize) → AreDefinitions rules table →
    length table ≡ min above (16 * (length rules + 1)) → All (λ (m : Minimize). All (λ (i : ℤ × ℤ). atom_of i.0 < above) m.items) ms
    → map (table_minimize table) ms ≡ map (unfolded_minimize rules) ms
statements-are rules table above [] are len low = refl
statements-are rules table above (m ∷ ms) are len low =
    let first = All-head (λ (m : Minimize). All (λ (i : ℤ × ℤ). atom_of i.0 < above) m.items) m ms low in
    let rest = All-tail (λ (m : Minimize). All (λ (i : ℤ × ℤ). atom_of i.0 < above) m.items) m ms low in
    ap (λ (xs : List (ℤ × ℤ)). (record { priority = m.priority; items = xs }) ∷ map (table_minimize table) ms) (items-are rules table above m.items are len first)
    ∙ ap (λ (xs : List Minimize). unfolded_minimize rules m ∷ xs) (statements-are rules table above ms are len rest)
