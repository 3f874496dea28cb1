-- The definitions of atoms as a table.
use Rattle.std.specs.Prelude.{◌≡◌, ℕ, ◌<◌, List, [], ◌∷◌, map, length, slice_index_or, ℤ, Option, None, Some}
use Rattle.asp_model.specs.declared.program.Minimize.{Minimize}
use Rattle.asp_model.specs.declared.program.Rule.{Rule}
use Rattle.asp_model.specs.Holding.{atom_of}
use Rattle.asp_unfold.specs.declared.table.Definition.{Definition}
use Rattle.asp_unfold.specs.declared.table.Definition.TheVariants.{Missing, By, Other}
use Rattle.asp_unfold.specs.Unfolded.{literal_by, replaced, rules_for}

-- what one rule more makes of the definition of an atom that it derives
abbrev pub definition_by : Option ℤ → Definition
definition_by None = Other
definition_by (Some m) = By m

abbrev pub noted : Definition → Rule → Definition
noted Missing r = definition_by (literal_by r.head r.body)
noted (By m) r = Other
noted Other r = Other

-- the definition of an atom that these rules derive
abbrev pub definition_of : List Rule → Definition
definition_of [] = Missing
definition_of (r ∷ []) = definition_by (literal_by r.head r.body)
definition_of (r ∷ s ∷ rs) = Other

abbrev pub literal_in : Definition → Option ℤ
literal_in Missing = None
literal_in (By m) = Some m
literal_in Other = None

abbrev pub definition_at : List Definition → ℕ → Definition
definition_at table a = slice_index_or table a Other

-- the literal that the table says in place of another
abbrev pub table_literal : List Definition → ℤ → ℤ
table_literal table l = replaced l (literal_in (definition_at table (atom_of l)))

abbrev pub table_items : List Definition → List (ℤ × ℤ) → List (ℤ × ℤ)
table_items table items = map (λ i. (table_literal table i.0, i.1)) items

abbrev pub table_minimize : List Definition → Minimize → Minimize
table_minimize table m = record { priority = m.priority; items = table_items table m.items }

-- The table has the definitions of its atoms by the rules.
abbrev pub AreDefinitions : List Rule → List Definition → Type 0
AreDefinitions rules table = (a : ℕ) → a < length table → definition_at table a ≡ definition_of (rules_for a rules)
