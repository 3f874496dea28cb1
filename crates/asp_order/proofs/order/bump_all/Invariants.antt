use Rattle.std.proofs.Common.{◌≡◌, take}
use Rattle.asp_order.specs.Waiting.{all_bumped}
use Rattle.asp_order.proofs.order.bump_all.Given as goal

abbrev pub invariant-loop-lit : goal.invariant-loop-lit
invariant-loop-lit l = l.heap ≡ all_bumped l.initial.heap (take l.lit-index l.lits)
