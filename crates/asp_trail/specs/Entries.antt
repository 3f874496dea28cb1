-- What a trail's entries say. The oldest entry comes first.
use Rattle.std.specs.Prelude.{ℕ, ◌+◌, ◌==◌, nat_le, length, ◌-◌, Bool, List, Option, Some, None, filter, fold, replicate, slice_set, slice_get, option_map, find}
use Rattle.asp_vars.specs.Literals.{Literal}
use Rattle.asp_trail.specs.declared.trail.Entry.{Entry}

-- the values of the variables 1 to vars; the place 0 stands for no variable
abbrev pub assign : List (Option Bool) → Entry → List (Option Bool)
assign values e = slice_set values e.lit.var (Some e.lit.truth)

abbrev pub assignment : ℕ → List Entry → List (Option Bool)
assignment vars entries = fold assign (replicate (vars + 1) None) entries

-- the entry of a variable
abbrev pub entry_of : List Entry → ℕ → Option Entry
entry_of entries v = find (λ e. e.lit.var == v) entries

abbrev pub level_or_zero : Option Entry → ℕ
level_or_zero None = 0
level_or_zero (Some e) = e.level

-- the level of a variable
abbrev pub level_in : List Entry → ℕ → ℕ
level_in entries v = level_or_zero (entry_of entries v)

abbrev pub reason_or_none : Option Entry → Option ℕ
reason_or_none None = None
reason_or_none (Some e) = e.reason

-- the reason of a variable, if it was implied
abbrev pub reason_in : List Entry → ℕ → Option ℕ
reason_in entries v = reason_or_none (entry_of entries v)

-- the newest entry's level, which is the number of decisions
abbrev pub level : List Entry → ℕ
level entries = level_or_zero (slice_get entries (length entries - 1))

-- the entries of the levels up to l
abbrev pub cut : ℕ → List Entry → List Entry
cut l entries = filter (λ e. nat_le e.level l) entries

-- the decision of level 1
abbrev pub first_decision : List Entry → Option Literal
first_decision entries = option_map (λ e. e.lit) (find (λ e. e.level == 1) entries)
