use Rattle.std.proofs.Common.{◌≡◌, true, ◌<◌, ◌≤◌, get_or}
use Rattle.asp_vars.specs.Literals.{Literal}
use Rattle.asp_stable.proofs.FoundingLaws.{up_more, all_taken}
use Rattle.asp_stable.proofs.ranks.highest.Goals as goal

pub loop-lit-preserved : goal.loop-lit-preserved
loop-lit-preserved c =
    let step = c.in_ok-top.ensures in
    up_more c.args.ranks.now c.args.lits.now c.lit-item.result c.loop-lit.lit-index c.loop-lit.top c.in_ok-top.top c.loop-lit-test.true c.lit-item.is c.loop-lit.invariant step.0 step.1

pub returns : goal.returns
returns c =
    all_taken (λ (l : Literal). l.truth ≡ true → (0 < get_or c.args.ranks.now l.var 0) × (get_or c.args.ranks.now l.var 0 ≤ c.loop-lit.top))
    c.args.lits.now c.loop-lit.lit-index c.loop-lit-test.false c.loop-lit.invariant
