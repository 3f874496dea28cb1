use Rattle.asp_analyze.proofs.LearnLaws.{reached_good}
use Rattle.asp_analyze.proofs.laws.learning_keeps_what_all_say.Goals as goal

pub returns : goal.returns
returns c = record { good = λ p known bound vars es from to used o reached can good all. reached_good p known bound vars es from to used o reached can good all }
