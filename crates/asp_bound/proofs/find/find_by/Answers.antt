use Rattle.std.proofs.Common.{true, false, None, inr}
use Rattle.asp_bound.proofs.FindLaws.{reached_by}
use Rattle.asp_bound.proofs.find.find_by.Goals as goal

pub returns-clause-passes : goal.returns-clause-passes
returns-clause-passes c =
    inr (
      reached_by c.args.rows.now c.args.sums.now c.args.bound.now c.args.var true c.row-row.result.now None c.row-row.ensures c.in_default.ensures,
      reached_by c.args.rows.now c.args.sums.now c.args.bound.now c.args.var false c.row-row.result.now None c.row-row.ensures c.in_default-reach.ensures,
    )
