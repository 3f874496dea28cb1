use Rattle.std.proofs.Common.{◌≡◌, Bool, drop}
use Rattle.asp_print.specs.Shown.{pieces}
use Rattle.asp_print.proofs.outputs.OutputTable.first_shown.Given as goal

abbrev pub invariant-loop-i : goal.invariant-loop-i
invariant-loop-i l = (any : Bool) → pieces l.self.between l.row.set any (drop l.i l.outputs) ≡ pieces l.self.between l.row.set any (drop l.from l.outputs)
