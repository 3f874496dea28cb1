use Rattle.std.proofs.Common.{◌≡◌, take}
use Rattle.std.specs.Prelude.{flat_map}
use Rattle.asp_vars.specs.Completion.{supports}
use Rattle.asp_loop.proofs.loops.support_numbers.Given as goal

abbrev pub invariant-loop-atom : goal.invariant-loop-atom
invariant-loop-atom l = l.numbers.items ≡ flat_map (supports l.compiled) (take l.atom-index l.atoms)
