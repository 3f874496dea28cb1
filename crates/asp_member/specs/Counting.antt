-- Which literals of a weight body count.
use Rattle.std.specs.Prelude.{Bool, true, false, not, List, Option}
use Rattle.asp_vars.specs.Literals.{Literal, complement, holds_in}

-- those that aren't false, or those that hold
abbrev pub counts : List (Option Bool) → Bool → Literal → Bool
counts x true l = not (holds_in x (complement l))
counts x false l = holds_in x l
