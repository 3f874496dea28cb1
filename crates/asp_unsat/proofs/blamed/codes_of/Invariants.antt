use Rattle.std.proofs.Common.{◌≡◌, take}
use Rattle.asp_unsat.specs.Blaming.{codes_by}
use Rattle.asp_unsat.proofs.blamed.codes_of.Given as goal

abbrev pub invariant-loop-reason : goal.invariant-loop-reason
invariant-loop-reason l = l.codes.keys ≡ codes_by (take l.reason-index l.reasons)
