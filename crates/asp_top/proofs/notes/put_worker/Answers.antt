use Rattle.asp_top.proofs.notes.put_worker.Goals as goal

pub returns : goal.returns
returns g c = rw c.worker_items-items.ensures at c.put_items.ensures
