use Rattle.asp_source.specs.Gathering.{IsGathering, Gathers}
use Rattle.asp_source.proofs.gather.draw_from.Given as goal

abbrev pub invariant-loop-body : goal.invariant-loop-body
invariant-loop-body l =
    IsGathering l.region.compiled.now l.region.components.now l.region.values.now l.region.component l.region.ranks.now.ranks 0 l.sources l.loose
    l.waiting l.joined × Gathers l.region.values.now l.initial.sources l.initial.loose l.initial.waiting l.sources l.loose l.waiting
