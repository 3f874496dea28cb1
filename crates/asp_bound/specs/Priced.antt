-- What a program's tables say of values.
use Rattle.std.specs.Prelude.{Bool, List, Option, ℤ}
use Rattle.asp_bound.specs.declared.priced.Priced.{Priced}
use Rattle.asp_bound.specs.Gathered.{valueless}
use Rattle.asp_bound.specs.Kept.{IsKept}

-- The tables are the program's, and the sums the optimistic cost of these values.
abbrev pub IsPriced : Priced → List (Option Bool) → List ℤ → Type 0
IsPriced t a sums = IsKept t.origin.value a t.rows t.columns t.vars.items sums

-- The least sums are the cost where no variable has a value.
abbrev pub AreTables : Priced → Type 0
AreTables t = IsPriced t (valueless t.origin.value) t.least.items
