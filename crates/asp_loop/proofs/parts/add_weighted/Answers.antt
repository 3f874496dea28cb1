use Rattle.std.proofs.lemmas.Int.{to_z-of_z}
use Rattle.std.proofs.Common.{◌≡◌, w32, to_z, of_z, Some, None, Bool, true, false, sym, ◌∙◌, refl, subst}
use Rattle.asp_vars.specs.Numbering.{nth_body, literal_of_form}
use Rattle.asp_vars.specs.Tabled.{form_literals, form_weights}
use Rattle.asp_vars.specs.Literals.{complement}
use Rattle.asp_model.specs.declared.program.Program.{Program}
use Rattle.asp_model.specs.declared.program.Body.{Body}
use Rattle.asp_loop.specs.Weighing.{counts}
use Rattle.asp_loop.specs.Parts.{AddsFalse}
use Rattle.asp_loop.proofs.WeightedLaws.{body_weights, body_stands, nth_weighted}
use Rattle.asp_loop.proofs.PartLaws.{weighted_nothing, weighted_false, weighted_firm, weighted_chosen, slack_of, chooses_of, some_of, none_of}
use Rattle.asp_loop.proofs.parts.add_weighted.Goals as goal

pub slack-requires-clause-weights : goal.slack-requires-clause-weights
slack-requires-clause-weights c = body_weights c.args.compiled.now c.args.body c.weights-weights.result.now c.program-program.ensures.sound c.requires.body c.weights-weights.ensures

pub slack-requires-2-clause-weights : goal.slack-requires-2-clause-weights
slack-requires-2-clause-weights c = body_weights c.args.compiled.now c.args.body c.weights-weights.result.now c.program-program.ensures.sound c.requires.body c.weights-weights.ensures

pub choose-requires-clause-weights : goal.choose-requires-clause-weights
choose-requires-clause-weights c = body_weights c.args.compiled.now c.args.body c.weights-weights.result.now c.program-program.ensures.sound c.requires.body c.weights-weights.ensures

pub returns-then-unreachable : goal.returns-then-unreachable
returns-then-unreachable c = λ U of_U.
    let p : Program = c.args.compiled.now in
    let fits : to_z w32 (of_z w32 c.args.bound) ≡ c.args.bound = to_z-of_z w32 c.args.bound c.ranges.bound in
    let b : Body = nth_body p c.args.body in
    let s = some_of c.slack.result (sym c.is_some-unreachable.ensures ∙ c.if-unreachable.true) in
    weighted_nothing p c.args.assign.now U c.args.vars.now b c.args.lits.now c.args.bound s.0 of_U c.requires.weighted
    (body_stands p c.args.body c.requires.body) (nth_weighted p c.args.body c.program-program.ensures.sound c.requires.body)
    (slack_of (counts c.args.assign.now c.args.vars.now false) c.literals-literals.result.now (form_literals p b) c.weights-weights.result.now
    (form_weights b) (to_z w32 (of_z w32 c.args.bound)) c.args.bound c.slack.result (Some s.0) c.literals-literals.ensures.literals
    c.weights-weights.ensures fits s.1 c.slack.ensures)

pub returns-then-is_false : goal.returns-then-is_false
returns-then-is_false c = λ U of_U.
    let p : Program = c.args.compiled.now in
    let fits : to_z w32 (of_z w32 c.args.bound) ≡ c.args.bound = to_z-of_z w32 c.args.bound c.ranges.bound in
    let b : Body = nth_body p c.args.body in
    let none = none_of c.slack.result (sym c.is_some-unreachable.ensures ∙ c.if-unreachable.false) in
    weighted_false p c.args.assign.now U c.args.vars.now b c.args.lits.now c.add_false.new.lits c.args.bound of_U c.requires.weighted (body_stands p c.args.body c.requires.body)
    (slack_of (counts c.args.assign.now c.args.vars.now false) c.literals-literals.result.now (form_literals p b) c.weights-weights.result.now
    (form_weights b) (to_z w32 (of_z w32 c.args.bound)) c.args.bound c.slack.result None c.literals-literals.ensures.literals
    c.weights-weights.ensures fits none c.slack.ensures)
    (subst (λ (t : Bool). AddsFalse c.args.assign.now (complement (literal_of_form p b)) c.args.lits.now c.add_false.new.lits t) c.if-is_false.true c.in_ok-is_false.ensures)

pub returns-in_ok-choose-in-Some : goal.returns-in_ok-choose-in-Some
returns-in_ok-choose-in-Some c = λ U of_U.
    let p : Program = c.args.compiled.now in
    let fits : to_z w32 (of_z w32 c.args.bound) ≡ c.args.bound = to_z-of_z w32 c.args.bound c.ranges.bound in
    let b : Body = nth_body p c.args.body in
    let none = none_of c.slack.result (sym c.is_some-unreachable.ensures ∙ c.if-unreachable.false) in
    weighted_chosen p c.args.assign.now U c.args.vars.now b c.args.lits.now c.add_false.new.lits c.choose.new.part c.args.bound c.in-Some.slack of_U
    c.requires.weighted (body_stands p c.args.body c.requires.body)
    (slack_of (counts c.args.assign.now c.args.vars.now false) c.literals-literals.result.now (form_literals p b) c.weights-weights.result.now
    (form_weights b) (to_z w32 (of_z w32 c.args.bound)) c.args.bound c.slack.result None c.literals-literals.ensures.literals
    c.weights-weights.ensures fits none c.slack.ensures)
    (subst (λ (t : Bool). AddsFalse c.args.assign.now (complement (literal_of_form p b)) c.args.lits.now c.add_false.new.lits t) c.if-is_false.false c.in_ok-is_false.ensures)
    (slack_of (counts c.args.assign.now c.args.vars.now true) c.literals-literals.result.now (form_literals p b) c.weights-weights.result.now
    (form_weights b) (to_z w32 (of_z w32 c.args.bound)) c.args.bound (Some c.in-Some.slack) (Some c.in-Some.slack)
    c.literals-literals.ensures.literals c.weights-weights.ensures fits refl c.in-Some.ensures)
    (chooses_of c.args.assign.now c.args.vars.now c.literals-literals.result.now (form_literals p b) c.weights-weights.result.now (form_weights b)
    c.in-Some.slack c.add_false.new.lits c.choose.new.part c.literals-literals.ensures.literals c.weights-weights.ensures
    c.in_ok-choose-in-Some.ensures)

pub returns-in-None : goal.returns-in-None
returns-in-None c = λ U of_U.
    let p : Program = c.args.compiled.now in
    let fits : to_z w32 (of_z w32 c.args.bound) ≡ c.args.bound = to_z-of_z w32 c.args.bound c.ranges.bound in
    let b : Body = nth_body p c.args.body in
    weighted_firm p c.args.assign.now U c.args.vars.now b c.args.lits.now c.add_false.new.lits c.args.bound of_U c.requires.weighted (body_stands p c.args.body c.requires.body)
    (subst (λ (t : Bool). AddsFalse c.args.assign.now (complement (literal_of_form p b)) c.args.lits.now c.add_false.new.lits t) c.if-is_false.false c.in_ok-is_false.ensures)
    (slack_of (counts c.args.assign.now c.args.vars.now true) c.literals-literals.result.now (form_literals p b) c.weights-weights.result.now
    (form_weights b) (to_z w32 (of_z w32 c.args.bound)) c.args.bound None None c.literals-literals.ensures.literals c.weights-weights.ensures
    fits refl c.in-None.ensures)
