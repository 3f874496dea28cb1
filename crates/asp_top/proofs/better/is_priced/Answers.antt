use Rattle.std.proofs.Common.{rules}
use Rattle.asp_top.proofs.BetterLaws.{cost-is, priced-if}
use Rattle.asp_top.proofs.better.is_priced.Goals as goal

pub returns : goal.returns
returns c =
    priced-if c.args.compiled.now c.args.set.now c.args.cost.now c.is_stable.result c.is_stable.ensures (search rules)
    (cost-is c.args.compiled.now c.program-program.result.now c.args.set.now c.in_ok-its.its c.args.cost.now (search rules) (search rules) c.program-program.ensures.program)
