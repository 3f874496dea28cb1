use Rattle.std.proofs.Common.{codes}
use Rattle.asp_faults.specs.Faults.{kind_text}
use Rattle.asp_faults.proofs.WriteLaws.{writes_then, writes_fails}
use Rattle.asp_faults.proofs.texts.write_behind.Goals as goal

pub returns-in_err-write : goal.returns-in_err-write
returns-in_err-write g c = writes_fails _ _ _ _ _ _ _ (codes ": ") (kind_text c.args.kind) c.in_err-write.ensures c.from_residual.ensures.1

pub returns : goal.returns
returns g c = writes_then _ _ _ _ _ _ _ _ (codes ": ") (kind_text c.args.kind) c.in_ok-write.ensures c.write_kind.ensures
