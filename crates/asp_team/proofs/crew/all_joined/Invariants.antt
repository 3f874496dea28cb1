use Rattle.std.proofs.Common.{vec_len}
use Rattle.asp_team.proofs.BackLaws.{IsJoining}
use Rattle.asp_team.proofs.crew.all_joined.Given as goal

abbrev pub invariant-workers : goal.invariant-workers
invariant-workers l = IsJoining l.shared l.initial.lead l.lead l.initial.workers.items l.workers.items

abbrev pub decreases-workers : goal.decreases-workers
decreases-workers l = vec_len l.workers
