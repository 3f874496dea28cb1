use Rattle.std.proofs.Common.{◌≡◌, take}
use Rattle.asp_model.proofs.outputs.Outputs.from_slice.Given as goal

abbrev pub invariant-loop-output : goal.invariant-loop-output
invariant-loop-output l = l.same ≡ take l.output-index l.outputs
