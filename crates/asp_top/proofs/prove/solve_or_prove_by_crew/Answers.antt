use Rattle.std.proofs.Common.{Bool, subst, sym}
use Rattle.asp_top.specs.Runs.{SolvesOr}
use Rattle.asp_top.proofs.prove.solve_or_prove_by_crew.Goals as goal

pub returns-then-options-clause-solves : goal.returns-then-options-clause-solves
returns-then-options-clause-solves g c = λ p is.
    subst (λ (b : Bool). SolvesOr b c.args.options.now p (g.K.Sink.held c.args.sink.now) (g.K.Sink.held c.prove_by_crew.new.sink) (g.K.Sink.faults c.args.sink.now)
    (g.K.Sink.faults c.prove_by_crew.new.sink) c.prove_by_crew.result.0) (sym c.if-options.true) (c.prove_by_crew.ensures.proves p is)

pub returns-else-options-clause-solves : goal.returns-else-options-clause-solves
returns-else-options-clause-solves g c = λ p is.
    subst (λ (b : Bool). SolvesOr b c.args.options.now p (g.K.Sink.held c.args.sink.now) (g.K.Sink.held c.solve_by_crew.new.sink) (g.K.Sink.faults c.args.sink.now)
    (g.K.Sink.faults c.solve_by_crew.new.sink) c.solve_by_crew.result.0) (sym c.if-options.false) (c.solve_by_crew.ensures.solves p is)
