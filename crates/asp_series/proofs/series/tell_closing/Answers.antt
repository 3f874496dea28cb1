use Rattle.asp_faults.proofs.WriteLaws.{writes_flushed}
use Rattle.asp_series.proofs.series.tell_closing.Goals as goal

pub returns-clause-writes : goal.returns-clause-writes
returns-clause-writes g c = writes_flushed _ _ _ _ _ _ _ _ _ c.in_ok-write_closing.ensures c.flush.ensures.bytes c.flush.ensures.cause c.flush.ensures.quiet
