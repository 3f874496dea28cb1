use Rattle.asp_checkrun.proofs.notes.write_failed.Goals as goal

pub returns : goal.returns
returns g c = rw c.if-is_closed.false c.write-2.ensures
