use Rattle.std.proofs.Common.{◌<◌, get_or, arith}
use Rattle.std.proofs.lemmas.List.Elements.{All-more}
use Rattle.asp_stable.proofs.FoundingLaws.{all_taken}
use Rattle.asp_stable.proofs.ranks.all_above.Goals as goal
use Rattle.asp_stable.proofs.ranks.all_above.Goals.{else-rank-gt0-via-then-rank-gt0+else-rank-top, else-rank-gt0-via-else-rank-gt0}

pub loop-var-preserved : goal.loop-var-preserved
loop-var-preserved c =
    All-more (λ v. 0 < get_or c.args.ranks.now v 0 → c.args.top < get_or c.args.ranks.now v 0) c.args.heads.now c.loop-var.var-index 0 c.loop-var-test.true c.loop-var.invariant
    (elim c.else-rank-gt0.branch [
      | else-rank-gt0-via-then-rank-gt0+else-rank-top w ↦ λ h. omega (arith, w.if-rank-top.false)
      | else-rank-gt0-via-else-rank-gt0 w ↦ λ h. absurd (omega (arith, h, w.if-rank-gt0.false))
    ])

pub returns : goal.returns
returns c = λ e. all_taken (λ v. 0 < get_or c.args.ranks.now v 0 → c.args.top < get_or c.args.ranks.now v 0) c.args.heads.now c.loop-var.var-index c.loop-var-test.false c.loop-var.invariant
