use Rattle.asp_checkrun.proofs.RunLaws.{answers_reads, answers_writes}
use Rattle.asp_checkrun.proofs.runs.check.Goals as goal

pub returns-clause-checks : goal.returns-clause-checks
returns-clause-checks g c = (c.run_check-checked.ensures.says, c.run_check-checked.ensures.sent)

pub returns-clause-read : goal.returns-clause-read
returns-clause-read g c = answers_reads c.run_check-checked.result _ _ c.run_check-checked.ensures.read c.run_check-checked.ensures.read_quiet

pub returns-clause-write : goal.returns-clause-write
returns-clause-write g c = answers_writes c.run_check-checked.result _ _ c.run_check-checked.ensures.write c.run_check-checked.ensures.write_quiet
