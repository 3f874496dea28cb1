use Rattle.asp_top.proofs.usage.write_usage.Goals as goal

pub returns : goal.returns
returns g c = rw c.usage.ensures at c.write_three.ensures
