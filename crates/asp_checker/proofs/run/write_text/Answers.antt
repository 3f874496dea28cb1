use Rattle.std.proofs.Common.{sym, ◌∙◌}
use Rattle.asp_checker.proofs.RunLaws.{written, half_written, said_sent, said_writes}
use Rattle.asp_checker.proofs.run.write_text.Goals as goal

pub returns-in-Ok-clause-says : goal.returns-in-Ok-clause-says
returns-in-Ok-clause-says g c = rw c.status_said.ensures (written _ _ c.args.text.now c.args.judgement c.requires c.in-Ok.ensures.all)

pub returns-in-Ok-clause-sent : goal.returns-in-Ok-clause-sent
returns-in-Ok-clause-sent g c = rw c.status_said.ensures (said_sent _ c.args.judgement c.in-Ok.ensures.sent)

pub returns-in-Ok-clause-cause : goal.returns-in-Ok-clause-cause
returns-in-Ok-clause-cause g c = λ e. absurd (said_writes c.args.judgement (sym c.status_said.ensures ∙ e))

pub returns-in-Err-clause-says : goal.returns-in-Err-clause-says
returns-in-Err-clause-says g c = half_written _ _ c.args.text.now c.args.judgement c.requires c.in-Err.ensures.front

pub returns-in-Err-clause-cause : goal.returns-in-Err-clause-cause
returns-in-Err-clause-cause g c = λ e. c.in-Err.ensures.cause
