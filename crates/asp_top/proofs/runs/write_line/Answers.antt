use Rattle.asp_top.proofs.runs.write_line.Goals as goal

pub returns : goal.returns
returns g c = rw c.version.ensures at c.write.ensures
