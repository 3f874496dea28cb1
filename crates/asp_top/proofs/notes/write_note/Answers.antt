use Rattle.asp_top.proofs.notes.write_note.Goals as goal

pub returns-in-Memory : goal.returns-in-Memory
returns-in-Memory g c = rw c.in-Memory.is c.write-in-Memory.ensures

pub returns-in-WriteFault-false : goal.returns-in-WriteFault-false
returns-in-WriteFault-false g c = rw (c.in-WriteFault-false.is, c.in-WriteFault-false.field-0-test) c.write.ensures
