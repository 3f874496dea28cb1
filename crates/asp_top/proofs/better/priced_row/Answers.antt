use Rattle.std.proofs.Common.{rules}
use Rattle.asp_top.proofs.BetterLaws.{priced-among}
use Rattle.asp_top.proofs.better.priced_row.Goals as goal

pub row_of-requires : goal.row_of-requires
row_of-requires c = priced-among c.args.compiled.now c.args.set.now c.args.cost.now (c.in_ok-is_priced.ensures (search rules))
