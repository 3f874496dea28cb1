use Rattle.asp_top.proofs.notes.put_loops.Goals as goal

pub returns-in-None : goal.returns-in-None
returns-in-None g c = rw c.in-None.is c.put.ensures

pub returns-in-Some : goal.returns-in-Some
returns-in-Some g c = rw c.in-Some.is (rw c.loop_items-items.ensures at c.put_items.ensures)
