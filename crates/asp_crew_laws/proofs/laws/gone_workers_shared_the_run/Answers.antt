use Rattle.asp_crew_laws.proofs.SharedLaws.{idle-when, shared-when}
use Rattle.asp_crew_laws.proofs.laws.gone_workers_shared_the_run.Goals as goal

pub returns : goal.returns
returns c = record { idle = idle-when; shared = shared-when }
