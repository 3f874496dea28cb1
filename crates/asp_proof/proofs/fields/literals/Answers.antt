use Rattle.asp_proof.specs.Texts.{integer_field}
use Rattle.asp_proof.specs.Grammar.{IsLiteral}
use Rattle.asp_proof.proofs.FieldLaws.{clear_literal, no_count, counted_from}
use Rattle.asp_proof.proofs.fields.literals.Goals as goal

pub returns-in_default : goal.returns-in_default
returns-in_default c = no_count IsLiteral integer_field c.args.line.now clear_literal c.in_default.ensures

pub each_literal-requires : goal.each_literal-requires
each_literal-requires c = c.in-Some.ensures.stops

pub returns : goal.returns
returns c = counted_from (λ x. x.0.items) (λ x. x.1.now) c.each_literal.result IsLiteral integer_field c.args.line.now c.in-Some.rest.now
    c.in-Some.count clear_literal c.in-Some.ensures c.each_literal.ensures
