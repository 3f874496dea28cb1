use Rattle.std.proofs.Common.{◌≡◌, ℕ, ◌+◌, ◌<◌, get_or, length}
use Rattle.asp_compile.specs.Named.{defines_at, first_below}
use Rattle.asp_compile.proofs.names.names.Given as goal

abbrev pub invariant-loop-var : goal.invariant-loop-var
invariant-loop-var l = record {
  whole : length l.names.items ≡ l.count;
  each : (j : ℕ) → j < l.count → get_or l.names.items j 0 ≡ first_below (defines_at l.headed l.supports (l.first + j)) l.var;
}
