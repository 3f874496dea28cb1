use Rattle.std.proofs.Common.{◌∙◌, ap, arith}
use Rattle.asp_model.specs.declared.program.Program.{Program}
use Rattle.asp_model.specs.Costs.{cost, just_above}
use Rattle.asp_core.specs.declared.task.Task.{Task}
use Rattle.asp_crew_laws.specs.Runs.{ties_of}
use Rattle.asp_crew.proofs.TieLaws.{searched-is, ties-may, ties-query}
use Rattle.asp_crew.proofs.ties.search.Goals as goal

pub opened-requires-clause-bound : goal.opened-requires-clause-bound
opened-requires-clause-bound g c = c.in_ok-bound.ensures ∙ ap (λ (p : Program). just_above (cost p c.args.best.now)) c.program.ensures.program

pub finish_program-requires-clause-task : goal.finish_program-requires-clause-task
finish_program-requires-clause-task g c = ties-query c.args.compiled.now c.args.ask (cost c.args.compiled.now c.args.best.now) c.args.budget c.in_ok-book.book.task c.in_ok-book.ensures.task

pub finish_program-requires-clause-goal : goal.finish_program-requires-clause-goal
finish_program-requires-clause-goal g c =
    ties-may c.args.compiled.now c.args.ask (cost c.args.compiled.now c.args.best.now) c.args.budget c.in_ok-book.book.task c.in_ok-bound.bound c.in_ok-book.ensures.task
    (c.in_ok-bound.ensures ∙ ap (λ (p : Program). just_above (cost p c.args.best.now)) c.program.ensures.program)

pub finish_program-requires-clause-of : goal.finish_program-requires-clause-of
finish_program-requires-clause-of g c = ap (λ (t : Task). t.program) c.in_ok-book.ensures.task

pub finish_program-requires-clause-fits : goal.finish_program-requires-clause-fits
finish_program-requires-clause-fits g c = omega (arith, ap (λ (t : Task). t.budget) c.in_ok-book.ensures.task, c.ranges.budget)

pub returns-in-Ok-clause-ties : goal.returns-in-Ok-clause-ties
returns-in-Ok-clause-ties g c =
    searched-is (ties_of c.args.compiled.now c.args.ask (cost c.args.compiled.now c.args.best.now) c.args.budget) c.finish_program.new.book
    c.told.result (c.in-Ok.ensures.finishes.task ∙ c.in_ok-book.ensures.task) c.told.ensures.lawful c.told.ensures.journal c.told.ensures.told

pub returns-in_err-bound-clause-heard : goal.returns-in_err-bound-clause-heard
returns-in_err-bound-clause-heard g c = g.met.W.Watch.begins c.args.watch.now

pub returns-in_err-book-clause-heard : goal.returns-in_err-book-clause-heard
returns-in_err-book-clause-heard g c = g.met.W.Watch.begins c.args.watch.now

pub returns-in_err-begin_second-clause-heard : goal.returns-in_err-begin_second-clause-heard
returns-in_err-begin_second-clause-heard g c = g.met.W.Watch.begins c.args.watch.now
