use Rattle.std.proofs.Common.{◌≡◌, w32, List, Bool, true, false, not, Option, Some, sym, ap, ◌∙◌}
use Rattle.std.specs.Prelude.{ℤ, int_le}
use Rattle.std.proofs.lemmas.Int.{to_z-of_z}
use Rattle.asp_model.specs.declared.program.Program.{Program}
use Rattle.asp_model.specs.declared.program.Body.{Body}
use Rattle.asp_vars.specs.Literals.{Literal, value_of}
use Rattle.asp_vars.specs.Numbering.{nth_body, var_of_form}
use Rattle.asp_model.specs.Models.{atoms_of}
use Rattle.asp_vars.specs.Tabled.{form_literals, form_weights}
use Rattle.asp_vars.proofs.HeldLaws.{literal_by-weighed}
use Rattle.asp_loop.specs.Weighing.{weigh}
use Rattle.asp_loop.proofs.WeightedLaws.{body_weights}
use Rattle.asp_member.specs.Counting.{counts}
use Rattle.asp_checker.proofs.BodyLaws.{broken_by}
use Rattle.asp_checker.proofs.weights.is_weight_body_broken.Goals as goal

pub reaches-requires-clause-weights : goal.reaches-requires-clause-weights
reaches-requires-clause-weights c = body_weights c.args.compiled.now c.args.body c.weights-weights.result.now c.program-program.ensures.sound c.requires.body c.weights-weights.ensures

pub reaches-requires-in-Some-false-clause-weights : goal.reaches-requires-in-Some-false-clause-weights
reaches-requires-in-Some-false-clause-weights c = body_weights c.args.compiled.now c.args.body c.weights-weights.result.now c.program-program.ensures.sound c.requires.body c.weights-weights.ensures

pub returns-in-Some-true : goal.returns-in-Some-true
returns-in-Some-true c =
    let p : Program = c.args.compiled.now in
    let b : Body = nth_body p c.args.body in
    let q : Literal → Bool = counts c.args.values.now true in
    let sums : c.reaches.result ≡ int_le c.args.bound (weigh q (form_literals p b) (form_weights b)) =
    c.reaches.ensures
    ∙ ap (λ (n : ℤ). int_le n (weigh q c.literals-lits.result.now c.weights-weights.result.now)) (to_z-of_z w32 c.args.bound c.ranges.bound)
    ∙ ap (λ (ls : List Literal). int_le c.args.bound (weigh q ls c.weights-weights.result.now)) c.literals-lits.ensures.literals
    ∙ ap (λ (ws : List ℤ). int_le c.args.bound (weigh q (form_literals p b) ws)) c.weights-weights.ensures in
    let value : value_of c.args.values.now (var_of_form p b) ≡ Some true =
    ap (value_of c.args.values.now) (sym (c.var.ensures
    ∙ ap (λ (l : Literal). l.var)
    (c.body_lit.ensures.lit ∙ literal_by-weighed (atoms_of p) (var_of_form p b) b c.args.bound c.requires.weighted)))
    ∙ sym c.in-Some-true.ensures ∙ ap (λ (t : Bool). let o : Option Bool = Some t in o) c.in-Some-true.field-0-test in
    ap not sums ∙ sym (broken_by p c.args.values.now b c.args.bound (Some true) c.requires.weighted value)

pub returns-in-Some-false : goal.returns-in-Some-false
returns-in-Some-false c =
    let p : Program = c.args.compiled.now in
    let b : Body = nth_body p c.args.body in
    let q : Literal → Bool = counts c.args.values.now false in
    let sums : c.reaches-in-Some-false.result ≡ int_le c.args.bound (weigh q (form_literals p b) (form_weights b)) =
    c.reaches-in-Some-false.ensures
    ∙ ap (λ (n : ℤ). int_le n (weigh q c.literals-lits.result.now c.weights-weights.result.now)) (to_z-of_z w32 c.args.bound c.ranges.bound)
    ∙ ap (λ (ls : List Literal). int_le c.args.bound (weigh q ls c.weights-weights.result.now)) c.literals-lits.ensures.literals
    ∙ ap (λ (ws : List ℤ). int_le c.args.bound (weigh q (form_literals p b) ws)) c.weights-weights.ensures in
    let value : value_of c.args.values.now (var_of_form p b) ≡ Some false =
    ap (value_of c.args.values.now) (sym (c.var.ensures
    ∙ ap (λ (l : Literal). l.var)
    (c.body_lit.ensures.lit ∙ literal_by-weighed (atoms_of p) (var_of_form p b) b c.args.bound c.requires.weighted)))
    ∙ sym c.in-Some-false.ensures ∙ ap (λ (t : Bool). let o : Option Bool = Some t in o) c.in-Some-false.field-0-test in
    sums ∙ sym (broken_by p c.args.values.now b c.args.bound (Some false) c.requires.weighted value)
