use Rattle.std.proofs.Common.{◌≡◌, true, false, List, [], ◌∷◌, ◌++◌, map, sym, ap, ◌∙◌, subst}
use Rattle.std.specs.Prelude.{is_some}
use Rattle.std.specs.Result.{OnOk}
use Rattle.asp_model.specs.declared.program.Body.{Body}
use Rattle.asp_model.specs.declared.program.Program.{Program}
use Rattle.asp_vars.specs.declared.nogood.Nogood.{Nogood}
use Rattle.asp_vars.specs.Literals.{Literal, complement}
use Rattle.asp_vars.specs.Numbering.{is_wide, literal_of_form, nth_body}
use Rattle.asp_vars.specs.Completion.{body_nogoods}
use Rattle.asp_vars.specs.Tabled.{bound_of}
use Rattle.asp_complete.specs.Listed.{pure, parts}
use Rattle.asp_complete.proofs.ListedLaws.{body_listed, barred_listed}
use Rattle.asp_complete.proofs.completion.add_body_at.Goals as goal

pub returns-then-is_barred : goal.returns-then-is_barred
returns-then-is_barred c =
    let p : Program = c.args.compiled.now in
    let b : Body = nth_body p c.args.body in
    let old : List Nogood = c.args.nogoods.now.items in
    let lits : List Literal = c.literals-literals.result.now in
    let normal : is_some (bound_of b) ≡ false = ap is_some (sym c.bound.ensures) ∙ sym c.is_some.ensures ∙ c.if-is_some.false in
    let wide : is_wide b ≡ true = sym c.is_wide.ensures ∙ c.if-not-is_wide.false in
    let alone : pure lits ∷ [] ≡ map pure (body_nogoods p b) =
    ap (λ (ls : List Literal). pure ls ∷ []) c.literals-literals.ensures.literals ∙ sym (barred_listed p b normal wide (sym c.is_barred.ensures ∙ c.if-is_barred.true)) in
    subst (λ (ns : List Nogood). OnOk c.add_barred.result (c.add_barred.new.nogoods.items ≡ old ++ ns)) alone c.add_barred.ensures

pub returns : goal.returns
returns c =
    let p : Program = c.args.compiled.now in
    let b : Body = nth_body p c.args.body in
    let old : List Nogood = c.args.nogoods.now.items in
    let lits : List Literal = c.literals-literals.result.now in
    let normal : is_some (bound_of b) ≡ false = ap is_some (sym c.bound.ensures) ∙ sym c.is_some.ensures ∙ c.if-is_some.false in
    let wide : is_wide b ≡ true = sym c.is_wide.ensures ∙ c.if-not-is_wide.false in
    c.in_ok-add_body.ensures
    ∙ ap (λ (k : Literal). old ++ pure (complement k ∷ lits) ∷ parts k lits) c.body_lit.ensures.lit
    ∙ ap (λ (ls : List Literal). old ++ pure (complement (literal_of_form p b) ∷ ls) ∷ parts (literal_of_form p b) ls) c.literals-literals.ensures.literals
    ∙ ap (λ (ns : List Nogood). old ++ ns) (sym (body_listed p b normal wide (sym c.is_barred.ensures ∙ c.if-is_barred.false)))
