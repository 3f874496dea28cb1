use Rattle.std.proofs.Common.{codes}
use Rattle.asp_top.specs.Usage.{usage_text}
use Rattle.asp_faults.proofs.WriteLaws.{writes_then, writes_fails}
use Rattle.asp_top.proofs.notes.write_not_text.Goals as goal

pub returns-in_err-write : goal.returns-in_err-write
returns-in_err-write g c = writes_fails _ _ _ _ _ _ _ (codes "aspenum: an argument is not UTF-8") usage_text c.in_err-write.ensures c.from_residual.ensures.1

pub returns : goal.returns
returns g c = writes_then _ _ _ _ _ _ _ _ (codes "aspenum: an argument is not UTF-8") usage_text c.in_ok-write.ensures c.write_usage.ensures
