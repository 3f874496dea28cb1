use Rattle.asp_faults.proofs.WriteLaws.{writes_then, writes_fails}
use Rattle.asp_faults.proofs.writes.write_both.Goals as goal

pub returns-in_err-write : goal.returns-in_err-write
returns-in_err-write g c = writes_fails _ _ _ _ _ _ _ c.args.first.now c.args.second.now c.in_err-write.ensures c.from_residual.ensures.1

pub returns : goal.returns
returns g c = writes_then _ _ _ _ _ _ _ _ _ _ c.in_ok-write.ensures c.write-2.ensures
