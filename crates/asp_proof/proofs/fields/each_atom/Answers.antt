use Rattle.std.proofs.Common.{arith}
use Rattle.std.proofs.Common.{◌≡◌, subst}
use Rattle.std.specs.Prelude.{flat_map}
use Rattle.asp_proof.specs.Texts.{natural_field}
use Rattle.asp_proof.specs.Grammar.{IsAtom}
use Rattle.asp_proof.specs.Fields.{IsAt, AreSo}
use Rattle.asp_proof.proofs.FieldLaws.{clear_atom, more_fields, no_field, no_fields_yet}
use Rattle.asp_proof.proofs.fields.each_atom.Goals as goal

pub loop-init : goal.loop-init
loop-init c = rw c.in_ok-atoms.ensures.items (no_fields_yet IsAtom natural_field c.args.line.now c.requires)

pub returns-in_default : goal.returns-in_default
returns-in_default c = no_field IsAtom natural_field c.args.line.now c.loop.rest.now c.loop.counter c.args.count c.loop.atoms.items clear_atom c.loop.invariant c.loop-test.true c.in_default.ensures

pub loop-preserved : goal.loop-preserved
loop-preserved c = rw c.in_ok-push.ensures.items
    (more_fields IsAtom natural_field c.args.line.now c.loop.rest.now c.in-Some.after.now c.loop.counter c.loop.atoms.items c.in-Some.a
    c.loop.invariant c.in-Some.ensures)

pub returns : goal.returns
returns c = let e : c.loop.counter ≡ c.args.count = omega arith in subst (λ k. IsAt (AreSo IsAtom k) (flat_map natural_field) c.args.line.now c.loop.atoms.items c.loop.rest.now) e c.loop.invariant
