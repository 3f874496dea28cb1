use Rattle.std.proofs.Common.{rules}
use Rattle.asp_slots.proofs.Moves.{join_step, compare_step}
use Rattle.asp_slots.proofs.row.Row.join.Goals as goal

pub join_seat-requires : goal.join_seat-requires
join_seat-requires c = (search rules, search rules, search rules, search rules, join_step _ _ _ _)

pub load-requires : goal.load-requires
load-requires c = (search rules, search rules, compare_step _ _ _)
