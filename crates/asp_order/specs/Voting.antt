-- Which value the learnt nogoods ask for.
use Rattle.std.specs.Prelude.{ℕ, ◌+◌, ◌-◌, ◌/◌, ◌^◌, Bool, true, false, nat_lt, min, List, fold, Option, None, Some, if◌then◌else◌, slice_index_or, slice_set}
use Rattle.asp_vars.specs.Literals.{Literal}
use Rattle.asp_order.specs.declared.votes.Count.{Count}

-- Of a variable that no nogood asks for a value.
abbrev pub none : Count
none = record { positive = 0; negative = 0 }

-- Of a variable that is never asked for a value: both counts are at the greatest number, where they stand still.
abbrev pub tied : Count
tied = record { positive = 2 ^ 32 - 1; negative = 2 ^ 32 - 1 }

abbrev pub one_more : ℕ → ℕ
one_more n = min (n + 1) (2 ^ 32 - 1)

-- with one more nogood that has this literal of the variable
abbrev pub counted : Count → Literal → Count
counted c l = if l.truth then record c { positive = one_more c.positive } else record c { negative = one_more c.negative }

abbrev pub count_at : List Count → ℕ → Count
count_at counts v = slice_index_or counts v none

-- A nogood of these literals was learnt.
abbrev pub voted : List Count → List Literal → List Count
voted counts lits = fold (λ cs l. slice_set cs l.var (counted (count_at cs l.var) l)) counts lits

-- The first are more than fifteen times as many as the second, rounded down.
abbrev pub outnumber : ℕ → ℕ → Bool
outnumber n m = nat_lt m (n / 15)

-- The value that nearly all ask for: where the positive literal stands in them, false.
abbrev pub asked : Count → Option Bool
asked c = if outnumber c.positive c.negative then Some false else if outnumber c.negative c.positive then Some true else None
