use Rattle.asp_worker.proofs.path.tell.Goals as goal

pub returns-then-engine-ne0 : goal.returns-then-engine-ne0
returns-then-engine-ne0 g c = g.met.W.Watch.begins c.args.watch.now
