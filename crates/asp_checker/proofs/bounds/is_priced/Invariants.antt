use Rattle.std.proofs.Common.{◌≡◌, false, take}
use Rattle.std.specs.List.{list_any}
use Rattle.asp_checker.specs.Blocks.{weighs}
use Rattle.asp_checker.proofs.bounds.is_priced.Given as goal

abbrev pub invariant-loop-weights : goal.invariant-loop-weights
invariant-loop-weights l = list_any (λ w. weighs w l.var) (take l.weights-index l.levels) ≡ false
