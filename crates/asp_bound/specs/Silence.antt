-- When the bound implies nothing, under the values that some variables have.
use Rattle.std.specs.Prelude.{ℕ, zero, suc, Bool, true, false, not, ◌||◌, ◌&&◌, List, Option, Some, None, slice_set, ℤ}
use Rattle.std.specs.Option.{is_none}
use Rattle.asp_model.specs.declared.program.Program.{Program}
use Rattle.asp_model.specs.Costs.{betters}
use Rattle.asp_vars.specs.Literals.{value_of}
use Rattle.asp_vars.specs.Numbering.{var_count}
use Rattle.asp_bound.specs.Optimism.{optimistic}

-- whether the optimistic cost is smaller than c
abbrev pub is_below : Program → List (Option Bool) → List ℤ → Bool
is_below p a c = betters (optimistic p a) c

-- whether the variable has a value, or keeps the optimistic cost smaller than c by either one
abbrev pub stays : Program → List (Option Bool) → List ℤ → ℕ → Bool
stays p a c v =
    not (is_none (value_of a v)) || (is_below p (slice_set a v (Some true)) c && is_below p (slice_set a v (Some false)) c)

-- whether the test passes for the numbers from 1 to n
abbrev pub each_to : (ℕ → Bool) → ℕ → Bool
each_to f zero = true
each_to f (suc n) = each_to f n && f (suc n)

-- No bound stands, or the optimistic cost is smaller and stays so with any one more variable.
abbrev pub is_silent : Program → Option (List ℤ) → List (Option Bool) → Bool
is_silent p None a = true
is_silent p (Some c) a = is_below p a c && each_to (stays p a c) (var_count p)
