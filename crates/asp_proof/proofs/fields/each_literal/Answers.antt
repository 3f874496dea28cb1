use Rattle.std.proofs.Common.{w32, rules, arith}
use Rattle.std.proofs.Common.{◌≡◌, subst}
use Rattle.std.proofs.lemmas.Int.{to_z-of_z}
use Rattle.std.specs.Prelude.{flat_map}
use Rattle.asp_proof.specs.Texts.{integer_field}
use Rattle.asp_proof.specs.Grammar.{IsLiteral}
use Rattle.asp_proof.specs.Fields.{IsAt, AreSo}
use Rattle.asp_proof.proofs.FieldLaws.{clear_literal, more_fields, no_field, no_fields_yet}
use Rattle.asp_proof.proofs.fields.each_literal.Goals as goal

pub loop-init : goal.loop-init
loop-init c = rw c.in_ok-literals.ensures.items (no_fields_yet IsLiteral integer_field c.args.line.now c.requires)

pub returns-in_default : goal.returns-in_default
returns-in_default c =
    no_field IsLiteral integer_field c.args.line.now c.loop.rest.now c.loop.counter c.args.count c.loop.literals.items clear_literal c.loop.invariant
    c.loop-test.true c.in_default.ensures

pub loop-preserved : goal.loop-preserved
loop-preserved c = rw (c.in_ok-push.ensures.items, to_z-of_z w32 c.in-Some.l (search rules))
    (more_fields IsLiteral integer_field c.args.line.now c.loop.rest.now c.in-Some.after.now c.loop.counter c.loop.literals.items c.in-Some.l
    c.loop.invariant c.in-Some.ensures)

pub returns : goal.returns
returns c = let e : c.loop.counter ≡ c.args.count = omega arith in
    subst (λ k. IsAt (AreSo IsLiteral k) (flat_map integer_field) c.args.line.now c.loop.literals.items c.loop.rest.now) e c.loop.invariant
