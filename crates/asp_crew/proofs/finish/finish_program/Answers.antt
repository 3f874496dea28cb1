use Rattle.asp_crew.proofs.finish.finish_program.Goals as goal

pub returns-in_err-propagator-clause-heard : goal.returns-in_err-propagator-clause-heard
returns-in_err-propagator-clause-heard g c = g.met.W.Watch.begins c.args.watch.now
