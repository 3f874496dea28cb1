use Rattle.std.proofs.Common.{◌≡◌, ℕ, ◌<◌, ◌≤◌, true, take, flat_map}
use Rattle.asp_model.specs.Sets.{has}
use Rattle.asp_settle.specs.Constraints.{denied_by}
use Rattle.asp_settle.proofs.denied.above.Given as goal

abbrev pub invariant-loop-literal : goal.invariant-loop-literal
invariant-loop-literal l = ((a : ℕ) → has (flat_map denied_by (take l.literal-index l.literals)) a ≡ true → a < l.above) × (l.above ≤ 4294967296)
