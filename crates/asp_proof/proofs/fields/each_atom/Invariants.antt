use Rattle.std.specs.Prelude.{flat_map}
use Rattle.asp_proof.specs.Texts.{natural_field}
use Rattle.asp_proof.specs.Grammar.{IsAtom}
use Rattle.asp_proof.specs.Fields.{IsAt, AreSo}
use Rattle.asp_proof.proofs.fields.each_atom.Given as goal

abbrev pub invariant-loop : goal.invariant-loop
invariant-loop l = IsAt (AreSo IsAtom l.counter) (flat_map natural_field) l.line l.atoms.items l.rest
