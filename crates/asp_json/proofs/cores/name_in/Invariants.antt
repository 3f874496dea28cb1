use Rattle.std.proofs.Common.{◌≡◌, drop}
use Rattle.asp_print.specs.Queries.{name_in}
use Rattle.asp_json.proofs.cores.name_in.Given as goal

abbrev pub invariant-loop-i : goal.invariant-loop-i
invariant-loop-i l = name_in l.atom (drop l.i l.outputs) ≡ name_in l.atom l.outputs
