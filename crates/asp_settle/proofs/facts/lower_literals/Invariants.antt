use Rattle.std.proofs.Common.{◌≡◌, false, take, map}
use Rattle.asp_model.specs.Holding.{atom_of}
use Rattle.asp_settle.specs.Tables.{with_flags}
use Rattle.asp_settle.proofs.facts.lower_literals.Given as goal

abbrev pub invariant-loop-literal : goal.invariant-loop-literal
invariant-loop-literal l = l.flags ≡ with_flags false l.initial.flags (map atom_of (take l.literal-index l.literals))
