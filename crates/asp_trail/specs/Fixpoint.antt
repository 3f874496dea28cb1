-- When a nogood is unit or violated.
use Rattle.std.specs.Prelude.{Bool, not, ◌||◌, ◌&&◌, List, Option}
use Rattle.std.specs.List.{list_all, list_any}
use Rattle.std.specs.Option.{is_none}
use Rattle.asp_vars.specs.Literals.{Literal, literal_eq, value_of, holds_in}

-- Its variable has no value.
abbrev pub is_open : List (Option Bool) → Literal → Bool
is_open a l = is_none (value_of a l.var)

-- All of its literals are true.
abbrev pub is_violated : List (Option Bool) → List Literal → Bool
is_violated a n = list_all (holds_in a) n

-- A literal of it is open, and all others are true.
abbrev pub is_unit : List (Option Bool) → List Literal → Bool
is_unit a n = list_any (λ l. is_open a l && list_all (λ k. literal_eq k l || holds_in a k) n) n

abbrev pub is_at_fixpoint : List (Option Bool) → List Literal → Bool
is_at_fixpoint a n = not (is_violated a n) && not (is_unit a n)
