use Rattle.asp_top.specs.Notes.{sought_text, threads_text}
use Rattle.asp_faults.proofs.WriteLaws.{writes_then, writes_fails}
use Rattle.asp_top.proofs.notes.write_idle.Goals as goal

pub returns-in_err-write_sought : goal.returns-in_err-write_sought
returns-in_err-write_sought g c = writes_fails _ _ _ _ _ _ _ (sought_text c.args.options.now c.args.mode) (threads_text c.args.options.now c.args.mode)
    c.in_err-write_sought.ensures c.from_residual.ensures.1

pub returns : goal.returns
returns g c = writes_then _ _ _ _ _ _ _ _ (sought_text c.args.options.now c.args.mode) (threads_text c.args.options.now c.args.mode) c.in_ok-write_sought.ensures c.write_threads.ensures
