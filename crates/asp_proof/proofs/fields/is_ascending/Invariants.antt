use Rattle.std.proofs.Common.{drop}
use Rattle.asp_proof.proofs.FieldLaws.{IsAhead}
use Rattle.asp_proof.proofs.fields.is_ascending.Given as goal

abbrev pub invariant-loop-a : goal.invariant-loop-a
invariant-loop-a l = IsAhead l.atoms l.last (drop l.a-index l.atoms)
