use Rattle.std.proofs.Common.{◌≡◌, ℕ, ◌<◌, ◌≤◌, true, take, flat_map}
use Rattle.asp_model.specs.Sets.{has}
use Rattle.asp_settle.specs.Settled.{fact_of}
use Rattle.asp_settle.proofs.facts.above.Given as goal

abbrev pub invariant-loop-i : goal.invariant-loop-i
invariant-loop-i l = ((a : ℕ) → has (flat_map fact_of (take l.i l.rules)) a ≡ true → a < l.above) × (l.above ≤ 4294967296)
