use Rattle.asp_top.proofs.prepare.prepare.Goals as goal

pub returns-in-None : goal.returns-in-None
returns-in-None g c = c.read.ensures c.in-None.is

pub returns-in-Some : goal.returns-in-Some
returns-in-Some g c = c.made.ensures _ _ c.in-Some.is
