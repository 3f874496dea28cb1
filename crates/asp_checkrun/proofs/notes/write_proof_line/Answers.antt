use Rattle.std.proofs.Common.{◌++◌, codes, decimal}
use Rattle.asp_faults.proofs.WriteLaws.{writes_then, writes_fails}
use Rattle.asp_checkrun.proofs.notes.write_proof_line.Goals as goal

pub returns-in_err-write_place : goal.returns-in_err-write_place
returns-in_err-write_place g c = writes_fails _ _ _ _ _ _ _ (codes "aspcheck: line " ++ decimal c.args.line ++ codes " of the proof: ")
    (c.args.text.now ++ codes "\n") c.in_err-write_place.ensures c.from_residual.ensures.1

pub returns : goal.returns
returns g c = writes_then _ _ _ _ _ _ _ _ (codes "aspcheck: line " ++ decimal c.args.line ++ codes " of the proof: ") (c.args.text.now ++ codes "\n") c.in_ok-write_place.ensures c.write_both.ensures
