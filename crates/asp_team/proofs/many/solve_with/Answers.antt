use Rattle.asp_team.proofs.many.solve_with.Goals as goal

pub returns-in-Err-clause-heard : goal.returns-in-Err-clause-heard
returns-in-Err-clause-heard g c = g.met.W.Watch.begins c.args.watch
