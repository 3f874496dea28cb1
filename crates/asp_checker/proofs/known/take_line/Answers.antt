use Rattle.asp_checker.proofs.known.take_line.Goals as goal

pub returns-in-Learned : goal.returns-in-Learned
returns-in-Learned c = rw c.in-Learned.is (c.take_nogood.ensures.learned c.in-Learned.names)
