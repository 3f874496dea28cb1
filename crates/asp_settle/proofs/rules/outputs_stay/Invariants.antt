use Rattle.std.proofs.Common.{◌≡◌, take, flat_map}
use Rattle.asp_settle.specs.Settled.{settled_output}
use Rattle.asp_settle.proofs.rules.outputs_stay.Given as goal

abbrev pub invariant-loop-i : goal.invariant-loop-i
invariant-loop-i l = flat_map (settled_output l.facts) (take l.i l.outputs) ≡ take l.i l.outputs
