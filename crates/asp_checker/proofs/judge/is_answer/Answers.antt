use Rattle.std.proofs.Common.{◌≡◌, sym, ap, ◌∙◌}
use Rattle.asp_model.specs.declared.program.Program.{Program}
use Rattle.asp_model.specs.Holding.{all_hold}
use Rattle.asp_checker.proofs.JudgeLaws.{is_member, not_member, not_assumed}
use Rattle.asp_checker.proofs.judge.is_answer.Goals as goal

pub returns-then-not-all_hold-clause-no : goal.returns-then-not-all_hold-clause-no
returns-then-not-all_hold-clause-no c = λ e.
    let same : c.as_slice-assumptions.result.now ≡ c.args.compiled.now.assumptions = c.as_slice-assumptions.ensures.value ∙ ap (λ (p : Program). p.assumptions) c.program-program.ensures.program in
    not_assumed c.args.compiled.now c.args.set.now (ap (all_hold c.args.set.now) (sym same) ∙ sym c.if-not-all_hold.ensures)

pub returns-clause-yes : goal.returns-clause-yes
returns-clause-yes c = λ e.
    let same : c.as_slice-assumptions.result.now ≡ c.args.compiled.now.assumptions = c.as_slice-assumptions.ensures.value ∙ ap (λ (p : Program). p.assumptions) c.program-program.ensures.program in
    is_member c.args.compiled.now c.args.set.now (sym c.in_ok-stable.ensures ∙ e) (ap (all_hold c.args.set.now) (sym same) ∙ sym c.if-not-all_hold.ensures)

pub returns-clause-no : goal.returns-clause-no
returns-clause-no c = λ e. not_member c.args.compiled.now c.args.set.now (sym c.in_ok-stable.ensures ∙ e)
