use Rattle.std.proofs.Common.{[], ◌∷◌, ◌++◌, codes, decimal, append_assoc, sym}
use Rattle.asp_faults.specs.Faults.{fault_text}
use Rattle.asp_faults.proofs.WriteLaws.{writes_then, writes_fails, writes_same}
use Rattle.asp_top.proofs.notes.write_refused.Goals as goal

pub returns-in_err-write_line : goal.returns-in_err-write_line
returns-in_err-write_line g c =
    let first = codes "aspenum: line " ++ decimal c.args.line in
    let text = fault_text c.args.fault in
    writes_same _ _ _ _ _ _ _ (writes_fails _ _ _ _ _ _ _ first (text ++ 10 ∷ []) c.in_err-write_line.ensures c.from_residual.ensures.1) (sym (append_assoc first text (10 ∷ [])))

pub returns-in_err-write_fault : goal.returns-in_err-write_fault
returns-in_err-write_fault g c = writes_fails _ _ _ _ _ _ _ (codes "aspenum: line " ++ decimal c.args.line ++ fault_text c.args.fault) (10 ∷ [])
    (writes_then _ _ _ _ _ _ _ _ _ _ c.in_ok-write_line.ensures c.in_err-write_fault.ensures) c.from_residual-in_err-write_fault.ensures.1

pub returns : goal.returns
returns g c = writes_then _ _ _ _ _ _ _ _ (codes "aspenum: line " ++ decimal c.args.line ++ fault_text c.args.fault) (10 ∷ [])
    (writes_then _ _ _ _ _ _ _ _ _ _ c.in_ok-write_line.ensures c.in_ok-write_fault.ensures) c.write.ensures
