use Rattle.std.proofs.Common.{◌≡◌, map, take}
use Rattle.asp_vars.specs.Numbering.{var_of_atom}
use Rattle.asp_checker.proofs.loops.vars_of.Given as goal

abbrev pub invariant-loop-atom : goal.invariant-loop-atom
invariant-loop-atom l = l.vars.items ≡ map (var_of_atom l.compiled) (take l.atom-index l.atoms)
