use Rattle.std.proofs.Common.{sym, subst}
use Rattle.asp_search_laws.specs.Searching.{Searching}
use Rattle.asp_crew.specs.Running.{IsReady}
use Rattle.asp_crew.proofs.finish.work_off_below.Goals as goal

pub work_off_all-requires-clause-ready : goal.work_off_all-requires-clause-ready
work_off_all-requires-clause-ready g c = subst (λ (s : Searching). IsReady c.args.mode c.args.book.now s c.args.fuel.now) (sym c.in_ok-set_bound.ensures) c.requires.ready

pub returns-in_err-set_bound-clause-heard : goal.returns-in_err-set_bound-clause-heard
returns-in_err-set_bound-clause-heard g c = g.met.W.Watch.begins c.args.watch.now
