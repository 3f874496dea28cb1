use Rattle.asp_found.proofs.MisnamedLaws.{AreReadBelow}
use Rattle.asp_found.proofs.names.misnamed_body.Given as goal

abbrev pub invariant-loop-body : goal.invariant-loop-body
invariant-loop-body l = AreReadBelow l.compiled l.interp l.truths l.body
