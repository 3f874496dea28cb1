-- The literals that raise the optimistic cost.
use Rattle.std.specs.Prelude.{ℕ, nat_lt, Bool, true, ◌&&◌, if◌then◌else◌, List, [], ◌∷◌, take, Option, Some, None}
use Rattle.std.specs.List.{list_any}
use Rattle.asp_vars.specs.Literals.{Literal, value_of}
use Rattle.asp_trail.specs.Entries.{assignment}
use Rattle.asp_trail.specs.Trails.{Trailed}
use Rattle.asp_bound.specs.declared.place.Place.{Place}
use Rattle.asp_bound.specs.Rises.{rise_by, row_at}

-- whether a place in the row adds something by the value, at one of the first priorities
abbrev pub raises : List Place → ℕ → Bool → Bool
raises row depth b = list_any (λ o. nat_lt o.level depth && nat_lt 0 (rise_by b o)) row

-- the literal of the variable's value, if it has one that passes the test
abbrev pub literal_if : (Bool → Bool) → ℕ → Option Bool → List Literal
literal_if q v None = []
literal_if q v (Some b) = if q b then record { var = v; truth = b } ∷ [] else []

-- the literal of the variable's value, if it has one
abbrev pub held_at : List (Option Bool) → ℕ → List Literal
held_at a v = literal_if (λ b. true) v (value_of a v)

-- the literal of the variable's value, if it adds something
abbrev pub raising_at : List (Option Bool) → List (List Place) → ℕ → ℕ → List Literal
raising_at a rows depth v = literal_if (raises (row_at rows v) depth) v (value_of a v)

-- the values before the entry at a place came
abbrev pub before : Trailed → ℕ → List (Option Bool)
before t place = assignment t.vars (take place t.entries)
