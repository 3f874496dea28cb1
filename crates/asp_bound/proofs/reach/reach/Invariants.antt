use Rattle.std.proofs.Common.{◌≡◌, ℕ, ◌+◌, drop}
use Rattle.std.specs.Option.{option_map}
use Rattle.asp_bound.specs.Rises.{raised}
use Rattle.asp_bound.specs.Reach.{reach, lifted}
use Rattle.asp_bound.proofs.reach.reach.Given as goal

-- the first sums are at their limits
abbrev pub invariant-loop-level : goal.invariant-loop-level
invariant-loop-level l =
    let sums = lifted (λ j. raised l.row j l.truth) l.sums in
    reach sums l.bound ≡ option_map (λ (n : ℕ). l.level + n) (reach (drop l.level sums) (drop l.level l.bound))
