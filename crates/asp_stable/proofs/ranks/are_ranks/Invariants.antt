use Rattle.std.proofs.Common.{ℕ, ◌<◌}
use Rattle.asp_stable.specs.Ranks.{IsRanked}
use Rattle.asp_stable.proofs.ranks.are_ranks.Given as goal

abbrev pub invariant-loop-body : goal.invariant-loop-body
invariant-loop-body l = (j : ℕ) → j < l.body → IsRanked l.compiled l.ranks j
