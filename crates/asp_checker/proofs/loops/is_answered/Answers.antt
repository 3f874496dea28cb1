use Rattle.std.proofs.Common.{◌≡◌, false, not, sym, ap, ◌∙◌, w32, rules}
use Rattle.std.specs.Prelude.{ℤ, int_le}
use Rattle.std.proofs.lemmas.Int.{to_z-of_z}
use Rattle.std.specs.List.{list_any}
use Rattle.asp_model.specs.declared.program.Program.{Program}
use Rattle.asp_model.specs.declared.program.Body.{Body}
use Rattle.asp_vars.specs.Literals.{complement, has_literal}
use Rattle.asp_vars.specs.Numbering.{nth_body, literal_of_form}
use Rattle.asp_vars.specs.Tabled.{form_literals, form_weights}
use Rattle.asp_loop.specs.Weighing.{is_within, is_kept, weigh}
use Rattle.asp_loop.proofs.WeightedLaws.{body_stands}
use Rattle.asp_checker.proofs.FoundLaws.{answered_false, open_weighted, open_normal}
use Rattle.asp_checker.proofs.loops.is_answered.Goals as goal

pub returns-then-is_false : goal.returns-then-is_false
returns-then-is_false c = λ set h.
    let p : Program = c.args.compiled.now in
    let b : Body = nth_body p c.args.body in
    answered_false p set c.args.nogood.now b
    (ap (has_literal c.args.nogood.now) (ap complement (sym c.body_lit.ensures.lit) ∙ sym c.complement.ensures) ∙ sym c.stands-is_false.ensures
    ∙ c.if-is_false.true)

pub returns-in-Some : goal.returns-in-Some
returns-in-Some c = λ set h.
    let p : Program = c.args.compiled.now in
    let b : Body = nth_body p c.args.body in
    let f : has_literal c.args.nogood.now (complement (literal_of_form p b)) ≡ false =
    ap (has_literal c.args.nogood.now) (ap complement (sym c.body_lit.ensures.lit) ∙ sym c.complement.ensures) ∙ sym c.stands-is_false.ensures
    ∙ c.if-is_false.false in
    ap not c.is_reached.ensures
    ∙ ap (λ (n : ℤ). not (int_le n (weigh (is_kept c.args.vars.now c.args.nogood.now) (form_literals p b) (form_weights b)))) (to_z-of_z w32 c.in-Some.bound (search rules))
    ∙ open_weighted p set c.args.vars.now c.args.nogood.now b c.in-Some.bound h (body_stands p c.args.body c.requires) (sym c.in-Some.ensures) f

pub returns-in-None : goal.returns-in-None
returns-in-None c = λ set h.
    let p : Program = c.args.compiled.now in
    let b : Body = nth_body p c.args.body in
    let f : has_literal c.args.nogood.now (complement (literal_of_form p b)) ≡ false =
    ap (has_literal c.args.nogood.now) (ap complement (sym c.body_lit.ensures.lit) ∙ sym c.complement.ensures) ∙ sym c.stands-is_false.ensures
    ∙ c.if-is_false.false in
    c.is_some_within.ensures ∙ ap (list_any (is_within c.args.vars.now)) c.literals.ensures.literals
    ∙ open_normal p set c.args.vars.now c.args.nogood.now b h (body_stands p c.args.body c.requires) (sym c.in-None.ensures) f
