use Rattle.asp_faults.proofs.WriteLaws.{noted}
use Rattle.asp_top.proofs.notes.note.Goals as goal

pub returns : goal.returns
returns g c = noted _ _ _ _ _ _ c.write_notes.ensures
