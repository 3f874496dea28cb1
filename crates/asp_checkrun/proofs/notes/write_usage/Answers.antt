use Rattle.asp_checkrun.proofs.notes.write_usage.Goals as goal

pub returns : goal.returns
returns g c = rw c.usage.ensures at c.write_both.ensures
