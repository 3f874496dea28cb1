use Rattle.std.proofs.Common.{sym, ap, ◌∙◌, subst, ◌++◌}
use Rattle.std.specs.Prelude.{List, Option, ℤ}
use Rattle.asp_outlet.specs.Outlets.{Ends}
use Rattle.asp_crew_laws.specs.declared.report.Report.{Report}
use Rattle.asp_top.specs.Runs.{list_text, price_after, price_of}
use Rattle.asp_top.proofs.stream.write_last.Goals as goal

pub returns-in-None-clause-ends : goal.returns-in-None-clause-ends
returns-in-None-clause-ends g c = λ a none fine after.
    let l = c.args.outlet.now.listing in
    let new = c.finish.new.self.sink.now in
    subst
    (λ (o : Option Report). Ends a (g.K.Sink.held new) (g.K.Sink.faults new) c.finish.result (list_text (price_after o) l.program c.args.end (l.sets ++ c.args.rest.now.sets)))
    (sym c.in-None.is) (c.finish.ensures.ends a none fine after)

pub returns-in-None-best-clause-ends : goal.returns-in-None-best-clause-ends
returns-in-None-best-clause-ends g c = λ a none fine after.
    let l = c.args.outlet.now.listing in
    let new = c.finish-in-None-best.new.self.sink.now in
    subst
    (λ (o : Option (List ℤ)). Ends a (g.K.Sink.held new) (g.K.Sink.faults new) c.finish-in-None-best.result (list_text o l.program c.args.end (l.sets ++ c.args.rest.now.sets)))
    (sym (ap price_after c.in-Some.is ∙ ap price_of c.in-None-best.is)) (c.finish-in-None-best.ensures.ends a none fine after)

pub returns-in-Some-best-clause-ends : goal.returns-in-Some-best-clause-ends
returns-in-Some-best-clause-ends g c = λ a none fine after.
    let l = c.args.outlet.now.listing in
    let new = c.finish_optima.new.self.sink.now in
    subst
    (λ (o : Option (List ℤ)). Ends a (g.K.Sink.held new) (g.K.Sink.faults new) c.finish_optima.result (list_text o l.program c.args.end (l.sets ++ c.args.rest.now.sets)))
    (sym (ap price_after c.in-Some.is ∙ ap price_of c.in-Some-best.is)) (c.finish_optima.ensures.ends a none fine after)
