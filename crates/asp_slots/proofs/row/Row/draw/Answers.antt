use Rattle.std.proofs.Common.{arith, rules}
use Rattle.asp_slots.proofs.Moves.{raise_step}
use Rattle.asp_slots.proofs.row.Row.draw.Goals as goal

pub compare_exchange-found-requires : goal.compare_exchange-found-requires
compare_exchange-found-requires c = (search rules, search rules, raise_step _ _ c.from-old.result _ (omega (arith, c.requires.next, c.from-old.ensures)))
