use Rattle.std.proofs.Common.{◌≡◌, ◌-◌, Bool, get_or, length, ap, subst, arith}
use Rattle.asp_model.specs.Models.{atoms_of}
use Rattle.asp_vars.specs.Numbering.{nth_body}
use Rattle.asp_loop.specs.Parts.{IsAdded}
use Rattle.asp_loop.proofs.LoopLaws.{adds_next, adds_whole, one_firm}
use Rattle.asp_loop.proofs.parts.add_parts.Goals as goal

pub loop-body-preserved : goal.loop-body-preserved
loop-body-preserved c = λ U of_U.
    let p = c.args.compiled.now in
    let v = get_or c.args.bodies.now c.loop-body.body-index 0 in
    let at : v - c.atom_count-atoms.result - 1 ≡ v - length (atoms_of p) - 1 = ap (λ n. v - n - 1) c.atom_count-atoms.ensures.count in
    let added = subst (λ (b : Bool). IsAdded p c.args.assign.now c.args.vars.now (nth_body p (v - c.atom_count-atoms.result - 1)) c.loop-body.lits
    c.add_part.new.lits b) c.if-not-added.false c.in_ok-added.ensures in
    adds_next p c.args.assign.now U c.args.bodies.now c.loop-body.body-index (v - c.atom_count-atoms.result - 1) c.args.lits.now c.loop-body.lits
    c.add_part.new.lits c.loop-body-test.true at (c.loop-body.invariant U of_U) (added U of_U)

pub returns-then-not-added : goal.returns-then-not-added
returns-then-not-added c = λ U of_U.
    let p = c.args.compiled.now in
    let v = get_or c.args.bodies.now c.loop-body.body-index 0 in
    let at : v - c.atom_count-atoms.result - 1 ≡ v - length (atoms_of p) - 1 = ap (λ n. v - n - 1) c.atom_count-atoms.ensures.count in
    let firm = subst (λ (b : Bool). IsAdded p c.args.assign.now c.args.vars.now (nth_body p (v - c.atom_count-atoms.result - 1)) c.loop-body.lits
    c.add_part.new.lits b) c.if-not-added.true c.in_ok-added.ensures in
    one_firm p c.args.assign.now U c.args.bodies.now c.loop-body.body-index (v - c.atom_count-atoms.result - 1) c.loop-body-test.true at (firm U of_U)

pub returns : goal.returns
returns c = λ U of_U. adds_whole c.args.compiled.now c.args.assign.now U c.args.bodies.now c.loop-body.body-index c.args.lits.now c.loop-body.lits
    (omega (arith, c.loop-body-test.false)) (c.loop-body.invariant U of_U)
