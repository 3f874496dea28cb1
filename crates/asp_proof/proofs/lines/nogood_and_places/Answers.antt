use Rattle.asp_proof.specs.Texts.{natural_field, counted_fields, literals_fields}
use Rattle.asp_proof.specs.Grammar.{IsNogood, ArePlaces}
use Rattle.asp_proof.proofs.FieldLaws.{clear_nogood, clear_places, no_first, no_second, both_at}
use Rattle.asp_proof.proofs.lines.nogood_and_places.Goals as goal

pub returns-in_default : goal.returns-in_default
returns-in_default c = no_first IsNogood ArePlaces literals_fields (counted_fields natural_field) c.args.line.now clear_places (rw c.in_default.is at c.in_ok-nogood.ensures)

pub returns-in-Some-2 : goal.returns-in-Some-2
returns-in-Some-2 c = both_at IsNogood ArePlaces literals_fields (counted_fields natural_field) c.args.line.now c.in-Some.nogood.items c.in-Some-2.names.items c.in-Some.rest.now c.in-Some-2.rest.now
    (rw c.in-Some.is at c.in_ok-nogood.ensures) (rw c.in-Some-2.is at c.in_ok-names.ensures)

pub returns-in-None : goal.returns-in-None
returns-in-None c = no_second IsNogood ArePlaces literals_fields (counted_fields natural_field) c.args.line.now c.in-Some.nogood.items c.in-Some.rest.now clear_nogood clear_places
    (rw c.in-Some.is at c.in_ok-nogood.ensures) (rw c.in-None.is at c.in_ok-names.ensures)
