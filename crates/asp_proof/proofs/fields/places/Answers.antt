use Rattle.asp_proof.specs.Texts.{natural_field}
use Rattle.asp_proof.specs.Fields.{IsCount}
use Rattle.asp_proof.proofs.FieldLaws.{clear_count, no_count, counted_from}
use Rattle.asp_proof.proofs.fields.places.Goals as goal

pub returns-in_default : goal.returns-in_default
returns-in_default c = no_count IsCount natural_field c.args.line.now clear_count c.in_default.ensures

pub each_place-requires : goal.each_place-requires
each_place-requires c = c.in-Some.ensures.stops

pub returns : goal.returns
returns c = counted_from (λ x. x.0.items) (λ x. x.1.now) c.each_place.result IsCount natural_field c.args.line.now c.in-Some.rest.now c.in-Some.count clear_count c.in-Some.ensures c.each_place.ensures
