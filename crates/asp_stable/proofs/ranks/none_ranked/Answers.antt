use Rattle.std.proofs.Common.{◌≡◌, get_or}
use Rattle.std.proofs.lemmas.List.Elements.{All-more}
use Rattle.asp_stable.proofs.FoundingLaws.{all_taken}
use Rattle.asp_stable.proofs.ranks.none_ranked.Goals as goal

pub loop-var-preserved : goal.loop-var-preserved
loop-var-preserved c = All-more (λ v. get_or c.args.ranks.now v 0 ≡ 0) c.args.heads.now c.loop-var.var-index 0 c.loop-var-test.true c.loop-var.invariant c.if-ranks-var-ne0.false

pub returns : goal.returns
returns c = λ e. all_taken (λ v. get_or c.args.ranks.now v 0 ≡ 0) c.args.heads.now c.loop-var.var-index c.loop-var-test.false c.loop-var.invariant
