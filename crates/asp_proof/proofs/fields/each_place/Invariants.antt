use Rattle.std.specs.Prelude.{flat_map}
use Rattle.asp_proof.specs.Texts.{natural_field}
use Rattle.asp_proof.specs.Fields.{IsCount, IsAt, AreSo}
use Rattle.asp_proof.proofs.fields.each_place.Given as goal

abbrev pub invariant-loop : goal.invariant-loop
invariant-loop l = IsAt (AreSo IsCount l.counter) (flat_map natural_field) l.line l.found.items l.rest
