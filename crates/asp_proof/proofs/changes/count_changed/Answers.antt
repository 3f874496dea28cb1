use Rattle.std.proofs.Common.{length, ap, arith}
use Rattle.asp_proof.proofs.ChangeLaws.{length_changed}
use Rattle.asp_proof.proofs.changes.count_changed.Goals as goal

pub overflow_add-count : goal.overflow_add-count
overflow_add-count c = omega (arith, c.turns.invariant.counted, c.turns.invariant.most, ap length c.in-Lone.ensures.1, length_changed c.args.one.now c.args.other.now)
