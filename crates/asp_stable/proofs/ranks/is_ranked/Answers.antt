use Rattle.asp_stable.proofs.FoundingLaws.{heads_above, heads_without}
use Rattle.asp_stable.proofs.ranks.is_ranked.Goals as goal

pub returns-in-Some : goal.returns-in-Some
returns-in-Some c = λ e.
    heads_above c.args.compiled.now c.args.ranks.now c.heads-heads.result.now c.literals.result.now c.args.body c.in-Some.top c.heads-heads.ensures.heads c.literals.ensures.literals c.in-Some.ensures
    (c.all_above.ensures e)

pub returns-in-None : goal.returns-in-None
returns-in-None c = λ e.
    heads_without c.args.compiled.now c.args.ranks.now c.heads-heads.result.now c.args.body c.heads-heads.ensures.heads (c.none_ranked.ensures e)
