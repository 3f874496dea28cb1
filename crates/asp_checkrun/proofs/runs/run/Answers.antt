use Rattle.asp_checkrun.specs.Given.{check, refused}
use Rattle.asp_checkrun.proofs.RunLaws.{answers_unread, checks_given, noted_for, replies_given}
use Rattle.asp_checkrun.proofs.runs.run.Goals as goal

pub returns-in-Ok-clause-does : goal.returns-in-Ok-clause-does
returns-in-Ok-clause-does g c = checks_given _ c.in-Ok.format _ c.check.result c.in-Ok.ensures c.check.ensures.checks

pub returns-in-Ok-clause-notes : goal.returns-in-Ok-clause-notes
returns-in-Ok-clause-notes g c = noted_for _ (check c.in-Ok.format) _ _ _ _ _ c.check.result c.in-Ok.ensures c.check.ensures.notes

pub returns-in-Err-clause-does : goal.returns-in-Err-clause-does
returns-in-Err-clause-does g c = replies_given _ (refused c.in-Err.error) _ _ _ _ c.reply.result c.in-Err.ensures c.reply.ensures.replies

pub returns-in-Err-clause-read : goal.returns-in-Err-clause-read
returns-in-Err-clause-read g c = answers_unread c.reply.result _ c.reply.ensures.no_read

pub returns-in-Err-clause-notes : goal.returns-in-Err-clause-notes
returns-in-Err-clause-notes g c = noted_for _ (refused c.in-Err.error) _ _ _ _ _ c.reply.result c.in-Err.ensures c.reply.ensures.notes
