use Rattle.std.proofs.Common.{◌≡◌, true, sym, ◌∙◌}
use Rattle.std.proofs.lemmas.Bool.{false≢true}
use Rattle.std.proofs.lemmas.List.Elements.{All-more}
use Rattle.asp_vars.specs.Literals.{T, holds_in}
use Rattle.asp_found.specs.Marks.{is_marked}
use Rattle.asp_stable.proofs.FoundingLaws.{all_taken}
use Rattle.asp_stable.proofs.derive.are_marked.Goals as goal
use Rattle.asp_stable.proofs.derive.are_marked.Goals.{else-is_true-via-then-is_true+else-not-marks-var, else-is_true-via-else-is_true}

pub loop-var-preserved : goal.loop-var-preserved
loop-var-preserved c =
    All-more (λ v. holds_in c.args.assign.now (T v) ≡ true → is_marked c.args.marks.now v ≡ true) c.args.vars.now c.loop-var.var-index 0 c.loop-var-test.true c.loop-var.invariant
    (elim c.else-is_true.branch [
      | else-is_true-via-then-is_true+else-not-marks-var w ↦ λ h. w.if-not-marks-var.false
      | else-is_true-via-else-is_true w ↦ λ h. absurd (false≢true (sym w.if-is_true.false ∙ c.is_true.ensures ∙ h))
    ])

pub returns : goal.returns
returns c = λ e. all_taken (λ v. holds_in c.args.assign.now (T v) ≡ true → is_marked c.args.marks.now v ≡ true) c.args.vars.now c.loop-var.var-index c.loop-var-test.false c.loop-var.invariant
