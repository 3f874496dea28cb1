use Rattle.std.proofs.Common.{◌≡◌}
use Rattle.asp_order.specs.Waiting.{aged}
use Rattle.asp_order.proofs.order.decay_all.Given as goal

abbrev pub invariant-loop : goal.invariant-loop
invariant-loop l = l.heap ≡ aged l.initial.heap l.counter
