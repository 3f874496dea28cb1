use Rattle.std.proofs.Common.{◌≡◌, false, take}
use Rattle.std.specs.List.{list_any}
use Rattle.asp_checker.specs.Loops.{has_head}
use Rattle.asp_checker.proofs.loops.has_head.Given as goal

abbrev pub invariant-loop-atom : goal.invariant-loop-atom
invariant-loop-atom l = list_any (has_head l.compiled l.nogood) (take l.atom-index l.atoms) ≡ false
