use Rattle.asp_proof.specs.Texts.{natural_field}
use Rattle.asp_proof.specs.Grammar.{IsAtom}
use Rattle.asp_proof.proofs.FieldLaws.{clear_atom, no_count, counted_from}
use Rattle.asp_proof.proofs.fields.counted_atoms.Goals as goal

pub returns-in_default : goal.returns-in_default
returns-in_default c = no_count IsAtom natural_field c.args.line.now clear_atom c.in_default.ensures

pub each_atom-requires : goal.each_atom-requires
each_atom-requires c = c.in-Some.ensures.stops

pub returns : goal.returns
returns c = counted_from (λ x. x.0.items) (λ x. x.1.now) c.each_atom.result IsAtom natural_field c.args.line.now c.in-Some.rest.now c.in-Some.count clear_atom c.in-Some.ensures c.each_atom.ensures
