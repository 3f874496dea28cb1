use Rattle.std.proofs.Common.{◌≡◌, take}
use Rattle.asp_unsat.specs.Blaming.{with_codes}
use Rattle.asp_unsat.proofs.blamed.add_codes.Given as goal

abbrev pub invariant-loop-lit : goal.invariant-loop-lit
invariant-loop-lit l = l.codes.keys ≡ with_codes l.initial.codes.keys (take l.lit-index l.lits)
