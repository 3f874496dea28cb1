use Rattle.asp_checkrun.proofs.notes.write_not_text.Goals as goal

pub returns : goal.returns
returns g c = rw c.usage.ensures at c.write_both.ensures
