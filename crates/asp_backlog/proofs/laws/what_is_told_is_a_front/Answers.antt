use Rattle.asp_backlog.proofs.ToldLaws.{told-all, told-front}
use Rattle.asp_backlog.proofs.laws.what_is_told_is_a_front.Goals as goal

pub returns : goal.returns
returns c = record { front = told-front; all = told-all }
