use Rattle.asp_crew_laws.proofs.LimitLaws.{exact, fewer, in-order, all-answers}
use Rattle.asp_crew_laws.proofs.laws.a_limit_is_kept.Goals as goal

pub returns : goal.returns
returns c = record { count = exact; fewer = fewer; order = in-order; answers = all-answers }
