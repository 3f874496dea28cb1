use Rattle.asp_faults.proofs.texts.write_found.Goals as goal

pub returns-in-Big : goal.returns-in-Big
returns-in-Big g c = rw c.in-Big.is c.write.ensures
