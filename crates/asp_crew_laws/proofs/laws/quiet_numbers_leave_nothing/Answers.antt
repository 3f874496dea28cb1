use Rattle.asp_crew_laws.proofs.QuietLaws.{quiet-both, quiet-closed}
use Rattle.asp_crew_laws.proofs.laws.quiet_numbers_leave_nothing.Goals as goal

pub returns-clause-both : goal.returns-clause-both
returns-clause-both c = quiet-both

pub returns-clause-closed : goal.returns-clause-closed
returns-clause-closed c = quiet-closed
