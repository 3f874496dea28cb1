use Rattle.std.proofs.Common.{◌≡◌, ◌+◌, ◌≤◌, length, drop}
use Rattle.asp_bound.specs.Reach.{depth}
use Rattle.asp_bound.proofs.reach.depth.Given as goal

-- the first sums are at their limits
abbrev pub invariant-loop-level : goal.invariant-loop-level
invariant-loop-level l =
    (l.level ≤ length l.sums) × (depth l.sums l.bound ≡ l.level + depth (drop l.level l.sums) (drop l.level l.bound))
