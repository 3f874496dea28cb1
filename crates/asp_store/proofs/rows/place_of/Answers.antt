use Rattle.std.proofs.Common.{arith}
use Rattle.asp_store.proofs.RowLaws.{has_none}
use Rattle.asp_store.proofs.rows.place_of.Goals as goal

pub unreachable-requires : goal.unreachable-requires
unreachable-requires c = has_none c.args.row.now c.args.lit (λ j d h. c.loop-i.invariant j d (omega (arith, h))) c.requires
