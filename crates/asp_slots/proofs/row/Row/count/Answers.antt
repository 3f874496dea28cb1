use Rattle.std.proofs.Common.{rules}
use Rattle.asp_slots.proofs.Moves.{look_step}
use Rattle.asp_slots.proofs.row.Row.count.Goals as goal

pub load-requires : goal.load-requires
load-requires c = (search rules, search rules, look_step _ _ _)
