use Rattle.asp_crew.specs.Running.{work_left}
use Rattle.asp_query.proofs.TurnLaws.{IsAlong}
use Rattle.asp_query.proofs.leaf.run.Given as goal

abbrev pub invariant-steps : goal.invariant-steps
invariant-steps g l = record {
  along : IsAlong l.initial.book l.book l.search l.fuel;
  heard : g.W.Watch.IsAfter l.initial.watch l.watch;
}

abbrev pub decreases-steps : goal.decreases-steps
decreases-steps g l = work_left l.search l.fuel
