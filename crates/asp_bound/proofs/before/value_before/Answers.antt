use Rattle.std.proofs.Common.{ap, ◌∙◌, sym}
use Rattle.asp_vars.specs.Literals.{holds_in}
use Rattle.asp_bound.specs.Reasons.{before}
use Rattle.asp_bound.proofs.LateLaws.{none_before, not_before}
use Rattle.asp_bound.proofs.before.value_before.Goals as goal

pub returns-in_err-truth : goal.returns-in_err-truth
returns-in_err-truth c =
    c.from_residual.ensures
    ∙ sym (none_before c.args.trail.now c.args.place c.args.var c.len-len.ensures.ordered (sym c.in_err-truth.ensures.value))

pub returns-else-held_before : goal.returns-else-held_before
returns-else-held_before c =
    sym (not_before c.args.trail.now c.args.place c.args.var c.in_ok-truth.truth c.len-len.ensures.ordered (sym c.in_ok-truth.ensures.value)
    (ap (holds_in (before c.args.trail.now c.args.place)) (sym c.new.ensures) ∙ (sym c.held_before.ensures ∙ c.if-held_before.false)))
