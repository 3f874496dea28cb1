use Rattle.std.proofs.Common.{rules}
use Rattle.asp_slots.proofs.Moves.{split_step}
use Rattle.asp_slots.proofs.row.Row.split.Goals as goal

pub split_seat-token-requires : goal.split_seat-token-requires
split_seat-token-requires c = (search rules, search rules, split_step _ _)
