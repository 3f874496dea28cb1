use Rattle.asp_top.specs.Notes.{crew_text, row_text}
use Rattle.asp_faults.proofs.WriteLaws.{writes_then, writes_fails}
use Rattle.asp_top.proofs.notes.write_threads.Goals as goal

pub returns-in_err-write_row : goal.returns-in_err-write_row
returns-in_err-write_row g c = writes_fails _ _ _ _ _ _ _ (row_text c.args.options.now) (crew_text c.args.options.now c.args.mode)
    c.in_err-write_row.ensures c.from_residual.ensures.1

pub returns : goal.returns
returns g c = writes_then _ _ _ _ _ _ _ _ (row_text c.args.options.now) (crew_text c.args.options.now c.args.mode) c.in_ok-write_row.ensures c.write_crew.ensures
