use Rattle.std.proofs.Common.{◌<◌, ℕ, IsSome}
use Rattle.asp_vars.specs.Literals.{value_of}
use Rattle.asp_trail.specs.Entries.{assignment}
use Rattle.asp_split.proofs.open.first_open.Given as goal

abbrev pub invariant-loop-var : goal.invariant-loop-var
invariant-loop-var l = (w : ℕ) → 0 < w → w < l.var → IsSome (value_of (assignment l.trail.vars l.trail.entries) w)
