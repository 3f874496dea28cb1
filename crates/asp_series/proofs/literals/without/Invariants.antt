use Rattle.std.proofs.Common.{◌≡◌, take}
use Rattle.asp_series.specs.Series.{without}
use Rattle.asp_series.proofs.literals.without.Given as goal

abbrev pub invariant-loop-literal : goal.invariant-loop-literal
invariant-loop-literal l = l.others.items ≡ without l.left_out (take l.literal-index l.literals)
