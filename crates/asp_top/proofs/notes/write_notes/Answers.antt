use Rattle.asp_top.specs.Notes.{later_notes, note_of}
use Rattle.asp_faults.proofs.WriteLaws.{writes_then, writes_fails}
use Rattle.asp_top.proofs.notes.write_notes.Goals as goal

pub returns-in_err-write_note : goal.returns-in_err-write_note
returns-in_err-write_note g c = writes_fails _ _ _ _ _ _ _ (note_of c.args.outcome.now.status)
    (later_notes c.args.options.now c.args.tally.now c.args.outcome.now) c.in_err-write_note.ensures c.from_residual.ensures.1

pub returns : goal.returns
returns g c = writes_then _ _ _ _ _ _ _ _ (note_of c.args.outcome.now.status) (later_notes c.args.options.now c.args.tally.now c.args.outcome.now) c.in_ok-write_note.ensures c.write_later.ensures
