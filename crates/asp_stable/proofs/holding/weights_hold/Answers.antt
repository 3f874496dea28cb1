use Rattle.std.proofs.Common.{w32, List, length, sym, ap, ◌∙◌}
use Rattle.std.specs.Prelude.{ℤ, int_le}
use Rattle.std.proofs.lemmas.Int.{to_z-of_z}
use Rattle.asp_model.specs.declared.program.Program.{Program}
use Rattle.asp_model.specs.declared.program.Body.{Body}
use Rattle.asp_vars.specs.Literals.{Literal}
use Rattle.asp_vars.specs.Numbering.{nth_body}
use Rattle.asp_vars.specs.Tabled.{form_literals}
use Rattle.asp_loop.specs.Weighing.{weigh}
use Rattle.asp_loop.proofs.WeightedLaws.{body_weights}
use Rattle.asp_found.proofs.MarkLaws.{same_places, literals_small}
use Rattle.asp_stable.specs.Holding.{is_held}
use Rattle.asp_stable.proofs.HoldingLaws.{held_weighted}
use Rattle.asp_stable.proofs.holding.weights_hold.Goals as goal

pub reaches-requires-clause-assign : goal.reaches-requires-clause-assign
reaches-requires-clause-assign c = literals_small c.args.compiled.now c.literals-lits.result.now (length c.args.assign.now) c.requires.assign c.literals-lits.ensures.atoms

pub reaches-requires-clause-marks : goal.reaches-requires-clause-marks
reaches-requires-clause-marks c = literals_small c.args.compiled.now c.literals-lits.result.now (length c.args.marks.now) c.requires.marks c.literals-lits.ensures.atoms

pub reaches-requires-clause-places : goal.reaches-requires-clause-places
reaches-requires-clause-places c =
    ap length c.weights.ensures ∙ same_places c.args.compiled.now (nth_body c.args.compiled.now c.args.body) c.args.bound c.requires.weighted ∙ sym (ap length c.literals-lits.ensures.literals)

pub reaches-requires-clause-weights : goal.reaches-requires-clause-weights
reaches-requires-clause-weights c = body_weights c.args.compiled.now c.args.body c.weights.result.now c.program-program.ensures.sound c.requires.body c.weights.ensures

pub returns : goal.returns
returns c =
    let p : Program = c.args.compiled.now in
    let b : Body = nth_body p c.args.body in
    c.reaches.ensures
    ∙ ap (λ (n : ℤ). int_le n (weigh (is_held c.args.assign.now c.args.marks.now) c.literals-lits.result.now c.weights.result.now)) (to_z-of_z w32 c.args.bound c.ranges.bound)
    ∙ ap (λ (ls : List Literal). int_le c.args.bound (weigh (is_held c.args.assign.now c.args.marks.now) ls c.weights.result.now)) c.literals-lits.ensures.literals
    ∙ ap (λ (ws : List ℤ). int_le c.args.bound (weigh (is_held c.args.assign.now c.args.marks.now) (form_literals p b) ws)) c.weights.ensures
    ∙ held_weighted p c.args.assign.now c.args.marks.now b c.args.bound c.requires.weighted
