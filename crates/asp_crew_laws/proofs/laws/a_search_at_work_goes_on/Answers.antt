use Rattle.asp_crew_laws.proofs.WorkLaws.{sought-begins, work-on, works-on}
use Rattle.asp_crew_laws.proofs.laws.a_search_at_work_goes_on.Goals as goal

pub returns : goal.returns
returns c = record { begins = sought-begins; on = work-on; leaf = works-on }
