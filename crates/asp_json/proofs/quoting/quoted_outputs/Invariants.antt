use Rattle.std.proofs.Common.{map, take, ◌≡◌}
use Rattle.asp_json.specs.Quoting.{quoted_output}
use Rattle.asp_json.proofs.quoting.quoted_outputs.Given as goal

abbrev pub invariant-loop-i : goal.invariant-loop-i
invariant-loop-i l = l.all ≡ map quoted_output (take l.i l.outputs)
