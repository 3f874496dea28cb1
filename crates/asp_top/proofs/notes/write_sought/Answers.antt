use Rattle.asp_top.specs.Notes.{asked_text, stream_text}
use Rattle.asp_faults.proofs.WriteLaws.{writes_then, writes_fails}
use Rattle.asp_top.proofs.notes.write_sought.Goals as goal

pub returns-in_err-write_asked : goal.returns-in_err-write_asked
returns-in_err-write_asked g c = writes_fails _ _ _ _ _ _ _ (asked_text c.args.options.now c.args.mode) (stream_text c.args.options.now c.args.mode)
    c.in_err-write_asked.ensures c.from_residual.ensures.1

pub returns : goal.returns
returns g c = writes_then _ _ _ _ _ _ _ _ (asked_text c.args.options.now c.args.mode) (stream_text c.args.options.now c.args.mode) c.in_ok-write_asked.ensures c.write_stream.ensures
