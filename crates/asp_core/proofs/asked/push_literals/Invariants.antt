use Rattle.std.proofs.Common.{◌≡◌, ◌++◌, take, map}
use Rattle.asp_model.specs.Holding.{atom_of}
use Rattle.asp_core.proofs.asked.push_literals.Given as goal

abbrev pub invariant-loop-literal : goal.invariant-loop-literal
invariant-loop-literal l = l.atoms.items ≡ l.initial.atoms.items ++ map atom_of (take l.literal-index l.literals)
