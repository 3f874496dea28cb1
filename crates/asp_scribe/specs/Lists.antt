-- What an answer changes of the one before it.
use Rattle.std.specs.Prelude.{ℕ, Bool, not, if◌then◌else◌, List, [], Option, None, Some}
use Rattle.asp_model.specs.Sets.{Atoms, has}
use Rattle.asp_proof.specs.Texts.{natural_field}
use Rattle.asp_rows.specs.declared.row.Row.{Row}

-- the set of a row, and where there is none the empty one
abbrev pub set_of : Option Row → Atoms
set_of None = []
set_of (Some row) = row.set

-- whether one of the sets alone has the atom
abbrev pub differs : Atoms → Atoms → ℕ → Bool
differs S T a = if has S a then not (has T a) else has T a

-- the field of an atom, if it is told
abbrev pub field_if : Bool → ℕ → List ℕ
field_if told a = if told then natural_field a else []
