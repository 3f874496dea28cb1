use Rattle.std.proofs.Common.{◌≡◌, true, take, flat_map}
use Rattle.asp_settle.specs.Constraints.{denied_by}
use Rattle.asp_settle.specs.Tables.{with_flags}
use Rattle.asp_settle.proofs.denied.raise_all_denied.Given as goal

abbrev pub invariant-loop-literal : goal.invariant-loop-literal
invariant-loop-literal l = l.flags ≡ with_flags true l.initial.flags (flat_map denied_by (take l.literal-index l.literals))
