use Rattle.asp_vars.proofs.SettledLaws.{more_literals, more_answers, lower_bound, found_bound}
use Rattle.asp_vars.proofs.laws.nogoods_keep_what_they_say.Goals as goal

pub returns : goal.returns
returns c = record { literals = more_literals; answers = more_answers; bound = lower_bound; first_bound = found_bound }
