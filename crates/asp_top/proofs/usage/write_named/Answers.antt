use Rattle.std.proofs.Common.{codes}
use Rattle.asp_cli.specs.Given.{fault_seen}
use Rattle.asp_top.specs.Usage.{misuse_text}
use Rattle.asp_faults.proofs.WriteLaws.{writes_then, writes_fails}
use Rattle.asp_top.proofs.usage.write_named.Goals as goal

pub returns-in_err-write : goal.returns-in_err-write
returns-in_err-write g c = writes_fails _ _ _ _ _ _ _ (codes "aspenum: ") (misuse_text (fault_seen c.args.fault.now)) c.in_err-write.ensures c.from_residual.ensures.1

pub returns : goal.returns
returns g c = writes_then _ _ _ _ _ _ _ _ (codes "aspenum: ") (misuse_text (fault_seen c.args.fault.now)) c.in_ok-write.ensures c.write_fault.ensures
