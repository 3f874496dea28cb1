use Rattle.std.proofs.Common.{◌≡◌, ◌++◌, ◌-◌, ◌≤◌, drop, length}
use Rattle.asp_rows.specs.Bits.{encode}
use Rattle.asp_rows.proofs.row.Row.of.Given as goal

abbrev pub invariant-loop-from : goal.invariant-loop-from
invariant-loop-from l = record {
  within : l.from ≤ length l.atoms;
  rest : l.words.items ++ encode (drop l.from l.atoms) l.set ≡ encode l.atoms l.set;
}

abbrev pub decreases-loop-from : goal.decreases-loop-from
decreases-loop-from l = length l.atoms - l.from
