use Rattle.asp_faults.proofs.WriteLaws.{writes_exit, writes_flushed}
use Rattle.asp_top.proofs.runs.write_version.Goals as goal

pub returns-in_err-write_line-clause-writes : goal.returns-in_err-write_line-clause-writes
returns-in_err-write_line-clause-writes g c = writes_exit _ _ _ _ _ _ _ _ c.in_err-write_line.ensures c.from_residual.ensures.1

pub returns-clause-writes : goal.returns-clause-writes
returns-clause-writes g c = writes_flushed _ _ _ _ _ _ _ _ _ c.in_ok-write_line.ensures c.flush.ensures.bytes c.flush.ensures.cause c.flush.ensures.quiet
