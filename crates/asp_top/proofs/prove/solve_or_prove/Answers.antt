use Rattle.std.proofs.Common.{Bool, subst, sym}
use Rattle.asp_top.specs.Runs.{SolvesAs}
use Rattle.asp_top.proofs.prove.solve_or_prove.Goals as goal

pub returns-then-options-clause-solves : goal.returns-then-options-clause-solves
returns-then-options-clause-solves g c = λ p is.
    subst (λ (b : Bool). SolvesAs b c.args.options.now p (g.K.Sink.held c.args.sink.now) (g.K.Sink.held c.prove.new.sink) (g.K.Sink.faults c.args.sink.now)
    (g.K.Sink.faults c.prove.new.sink) c.prove.result) (sym c.if-options.true) (c.prove.ensures.proves p is)

pub returns-else-options-clause-solves : goal.returns-else-options-clause-solves
returns-else-options-clause-solves g c = λ p is.
    subst (λ (b : Bool). SolvesAs b c.args.options.now p (g.K.Sink.held c.args.sink.now) (g.K.Sink.held c.solve_or_stream.new.sink) (g.K.Sink.faults c.args.sink.now)
    (g.K.Sink.faults c.solve_or_stream.new.sink) c.solve_or_stream.result) (sym c.if-options.false) (c.solve_or_stream.ensures.solves p is)
