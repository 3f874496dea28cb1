use Rattle.std.proofs.Common.{◌≡◌, ℕ, ◌<◌, not, length, sym, ap, ◌∙◌, subst, arith}
use Rattle.asp_model.specs.declared.program.Program.{Program}
use Rattle.asp_model.specs.Sets.{Atoms}
use Rattle.asp_vars.specs.declared.nogood.Nogood.{Nogood}
use Rattle.asp_vars.specs.Literals.{is_true}
use Rattle.asp_vars.specs.Numbering.{bodies_of, literal_of_form, nth_body}
use Rattle.asp_found.specs.Verdicts.{IsBroken}
use Rattle.asp_found.proofs.MisnamedLaws.{value_at, misnamed_broken, read_all, read_more, differ_is, same_is}
use Rattle.asp_found.proofs.names.misnamed_body.Goals as goal

pub returns-then-is_met-holds : goal.returns-then-is_met-holds
returns-then-is_met-holds c =
    let p : Program = c.args.compiled.now in
    let S : Atoms = c.args.interp.now in
    let j : ℕ = c.loop-body.body in
    let count = c.body_count-body-end.ensures.count in
    let lt : j < length (bodies_of p) = omega (arith, count, c.loop-body-test.true) in
    let differs : is_true c.args.truths.now (literal_of_form p (nth_body p j)) ≡ not c.holds-holds.result =
    ap (is_true c.args.truths.now) (sym c.body_lit.ensures.lit) ∙ sym c.is_met.ensures
    ∙ differ_is c.is_met.result c.holds-holds.result c.if-is_met-holds.true in
    subst (λ (n : Nogood). IsBroken p S n) (sym c.in_ok-nogood.ensures)
    (misnamed_broken p S c.args.truths.now j c.holds-holds.result c.program-program.ensures.sound c.requires lt c.holds-holds.ensures differs)

pub loop-body-preserved : goal.loop-body-preserved
loop-body-preserved c =
    let p : Program = c.args.compiled.now in
    let S : Atoms = c.args.interp.now in
    let j : ℕ = c.loop-body.body in
    let count = c.body_count-body-end.ensures.count in
    let lt : j < length (bodies_of p) = omega (arith, count, c.loop-body-test.true) in
    read_more p S c.args.truths.now j c.loop-body.invariant
    (ap (is_true c.args.truths.now) (sym c.body_lit.ensures.lit) ∙ sym c.is_met.ensures ∙ same_is c.is_met.result c.holds-holds.result c.if-is_met-holds.false ∙ c.holds-holds.ensures
    ∙ value_at p S c.args.truths.now j c.requires lt)

pub returns : goal.returns
returns c =
    let p : Program = c.args.compiled.now in
    let count = c.body_count-body-end.ensures.count in
    read_all p c.args.interp.now c.args.truths.now c.loop-body.body c.requires (omega (arith, count, c.loop-body-test.false)) c.loop-body.invariant
