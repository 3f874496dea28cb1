use Rattle.asp_checker.proofs.RunLaws.{flushed_all, flushed_front, flushed_cause, flushed_quiet}
use Rattle.asp_checker.proofs.run.write_flushed.Goals as goal

pub returns-clause-all : goal.returns-clause-all
returns-clause-all g c = flushed_all _ _ _ c.args.text.now c.flush.result c.in_ok-write_all.ensures.all c.flush.ensures.bytes

pub returns-clause-front : goal.returns-clause-front
returns-clause-front g c = flushed_front _ _ _ c.args.text.now c.flush.result c.in_ok-write_all.ensures.all c.flush.ensures.bytes

pub returns-clause-cause : goal.returns-clause-cause
returns-clause-cause g c = flushed_cause _ _ _ c.flush.result c.in_ok-write_all.ensures.later c.flush.ensures.cause

pub returns-clause-quiet : goal.returns-clause-quiet
returns-clause-quiet g c = flushed_quiet _ _ _ c.flush.result c.in_ok-write_all.ensures.quiet c.flush.ensures.quiet
