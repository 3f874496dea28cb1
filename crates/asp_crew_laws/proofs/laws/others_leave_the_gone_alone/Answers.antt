use Rattle.asp_crew_laws.proofs.GoneLaws.{gone-later, gone-shorter}
use Rattle.asp_crew_laws.proofs.laws.others_leave_the_gone_alone.Goals as goal

pub returns : goal.returns
returns c = record { later = gone-later; shorter = gone-shorter }
