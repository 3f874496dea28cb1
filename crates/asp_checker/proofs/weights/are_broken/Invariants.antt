use Rattle.std.proofs.Common.{◌≡◌, false, take}
use Rattle.std.specs.List.{list_any}
use Rattle.asp_vars.specs.Numbering.{bodies_of}
use Rattle.asp_checker.specs.Propagation.{is_broken}
use Rattle.asp_checker.proofs.weights.are_broken.Given as goal

abbrev pub invariant-loop-body : goal.invariant-loop-body
invariant-loop-body l = list_any (is_broken l.compiled l.values) (take l.body (bodies_of l.compiled)) ≡ false
