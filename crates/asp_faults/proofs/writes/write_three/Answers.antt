use Rattle.std.proofs.Common.{◌++◌}
use Rattle.asp_faults.proofs.WriteLaws.{writes_then, writes_fails}
use Rattle.asp_faults.proofs.writes.write_three.Goals as goal

pub returns-in_err-write_both : goal.returns-in_err-write_both
returns-in_err-write_both g c = writes_fails _ _ _ _ _ _ _ (c.args.first.now ++ c.args.second.now) c.args.third.now c.in_err-write_both.ensures c.from_residual.ensures.1

pub returns : goal.returns
returns g c = writes_then _ _ _ _ _ _ _ _ _ _ c.in_ok-write_both.ensures c.write.ensures
