use Rattle.std.proofs.Common.{◌++◌, codes}
use Rattle.asp_faults.specs.Faults.{kind_text, place_text}
use Rattle.asp_faults.proofs.WriteLaws.{writes_then, writes_fails}
use Rattle.asp_faults.proofs.texts.write_fault.Goals as goal

pub returns-in_err-write_place : goal.returns-in_err-write_place
returns-in_err-write_place g c = writes_fails _ _ _ _ _ _ _ (place_text c.args.fault) (codes ": " ++ kind_text c.args.fault.kind) c.in_err-write_place.ensures c.from_residual.ensures.1

pub returns : goal.returns
returns g c = writes_then _ _ _ _ _ _ _ _ (place_text c.args.fault) (codes ": " ++ kind_text c.args.fault.kind) c.in_ok-write_place.ensures c.write_behind.ensures
