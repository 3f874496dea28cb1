use Rattle.std.proofs.Common.{w32, List, length, sym, ap, ◌∙◌}
use Rattle.std.specs.Prelude.{ℤ, int_le}
use Rattle.std.proofs.lemmas.Int.{to_z-of_z}
use Rattle.asp_model.specs.declared.program.Program.{Program}
use Rattle.asp_model.specs.declared.program.Body.{Body}
use Rattle.asp_vars.specs.Literals.{Literal}
use Rattle.asp_vars.specs.Numbering.{nth_body}
use Rattle.asp_vars.specs.Tabled.{form_literals}
use Rattle.asp_loop.specs.Weighing.{weigh}
use Rattle.asp_loop.proofs.WeightedLaws.{body_weights, body_stands}
use Rattle.asp_source.specs.Marks.{lit_outside}
use Rattle.asp_source.proofs.BodyLaws.{needs_weighted, same_places, literals_small, literals_valued}
use Rattle.asp_source.proofs.bodies.is_reached.Goals as goal

pub reaches-requires-clause-limit : goal.reaches-requires-clause-limit
reaches-requires-clause-limit g c = literals_small c.args.compiled.now c.literals-lits.result.now (g.I.Inside.limit c.args.set.now) c.requires.limit c.literals-lits.ensures.atoms

pub reaches-requires-clause-values : goal.reaches-requires-clause-values
reaches-requires-clause-values g c = literals_valued c.args.compiled.now c.literals-lits.result.now (length c.args.values.now) c.requires.values c.literals-lits.ensures.atoms

pub reaches-requires-clause-places : goal.reaches-requires-clause-places
reaches-requires-clause-places g c =
    ap length c.weights.ensures ∙ same_places c.args.compiled.now (nth_body c.args.compiled.now c.args.body) c.args.bound c.requires.weighted ∙ sym (ap length c.literals-lits.ensures.literals)

pub reaches-requires-clause-weights : goal.reaches-requires-clause-weights
reaches-requires-clause-weights g c = body_weights c.args.compiled.now c.args.body c.weights.result.now c.program-program.ensures.sound c.requires.body c.weights.ensures

pub returns : goal.returns
returns g c =
    let p : Program = c.args.compiled.now in
    let b : Body = nth_body p c.args.body in
    c.reaches.ensures
    ∙ ap (λ (n : ℤ). int_le n (weigh (lit_outside c.args.values.now (g.I.Inside.has_var c.args.set.now)) c.literals-lits.result.now c.weights.result.now)) (to_z-of_z w32 c.args.bound c.ranges.bound)
    ∙ ap (λ (ls : List Literal). int_le c.args.bound (weigh (lit_outside c.args.values.now (g.I.Inside.has_var c.args.set.now)) ls c.weights.result.now)) c.literals-lits.ensures.literals
    ∙ ap (λ (ws : List ℤ). int_le c.args.bound (weigh (lit_outside c.args.values.now (g.I.Inside.has_var c.args.set.now)) (form_literals p b) ws)) c.weights.ensures
    ∙ needs_weighted p c.args.values.now (g.I.Inside.has_var c.args.set.now) b c.args.bound c.requires.weighted (body_stands p c.args.body c.requires.body)
