use Rattle.std.proofs.Common.{map}
use Rattle.asp_checker.specs.Blocks.{sum_over}
use Rattle.asp_checker.proofs.BoundLaws.{CompareFrom}
use Rattle.asp_checker.proofs.bounds.reaches.Given as goal

abbrev pub invariant-loop-i : goal.invariant-loop-i
invariant-loop-i l = CompareFrom (map (λ w. sum_over l.values w l.priced) l.levels) l.cost l.i
