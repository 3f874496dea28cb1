use Rattle.std.proofs.Common.{length, vec_len}
use Rattle.asp_team.proofs.TeamLaws.{IsGathering}
use Rattle.asp_team.proofs.team.workers.Given as goal

abbrev pub invariant-lanes : goal.invariant-lanes
invariant-lanes l = IsGathering l.shared l.initial.lead l.lead l.workers.items (length l.lanes.items) l.passes.items (length l.initial.lanes.items)

abbrev pub decreases-lanes : goal.decreases-lanes
decreases-lanes l = vec_len l.lanes
