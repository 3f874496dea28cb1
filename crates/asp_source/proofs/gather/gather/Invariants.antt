use Rattle.std.proofs.Common.{◌+◌, ◌-◌, count_by, length}
use Rattle.asp_source.specs.Gathering.{IsGathering, Gathers}
use Rattle.asp_source.proofs.gather.gather.Given as goal

abbrev pub invariant-loop-place : goal.invariant-loop-place
invariant-loop-place l =
    IsGathering l.region.compiled.now l.region.components.now l.region.values.now l.region.component l.region.ranks.now.ranks 0 l.sources l.loose
    l.waiting l.joined × Gathers l.region.values.now l.initial.sources l.initial.loose l.initial.waiting l.sources l.loose l.waiting

abbrev pub decreases-loop-place : goal.decreases-loop-place
decreases-loop-place l = count_by (λ b. b) l.waiting + (length l.loose - count_by (λ b. b) l.loose)
