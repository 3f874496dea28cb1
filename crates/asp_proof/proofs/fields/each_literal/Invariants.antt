use Rattle.std.specs.Prelude.{flat_map}
use Rattle.asp_proof.specs.Texts.{integer_field}
use Rattle.asp_proof.specs.Grammar.{IsLiteral}
use Rattle.asp_proof.specs.Fields.{IsAt, AreSo}
use Rattle.asp_proof.proofs.fields.each_literal.Given as goal

abbrev pub invariant-loop : goal.invariant-loop
invariant-loop l = IsAt (AreSo IsLiteral l.counter) (flat_map integer_field) l.line l.literals.items l.rest
