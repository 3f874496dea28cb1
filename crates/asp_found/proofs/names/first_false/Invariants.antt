use Rattle.std.proofs.Common.{◌≡◌, drop}
use Rattle.asp_found.specs.Misnamed.{first_false}
use Rattle.asp_found.proofs.names.first_false.Given as goal

abbrev pub invariant-loop-lit : goal.invariant-loop-lit
invariant-loop-lit l = first_false l.truths (drop l.lit-index l.lits) ≡ first_false l.truths l.lits
