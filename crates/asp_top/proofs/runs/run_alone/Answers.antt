use Rattle.std.proofs.Common.{Bool, subst}
use Rattle.asp_top.specs.Runs.{around}
use Rattle.asp_top.specs.Series.{RunsBy}
use Rattle.asp_top.proofs.WholeLaws.{whole}
use Rattle.asp_top.proofs.runs.run_alone.Goals as goal

pub returns-clause-whole : goal.returns-clause-whole
returns-clause-whole g c = λ plain one.
    let a = around (g.S.Source.left c.args.source.now) (g.S.Source.left c.run_with.new.source) (g.S.Source.faults c.args.source.now) (g.S.Source.faults c.run_with.new.source)
    (g.K.Sink.held c.args.sink.now) (g.K.Sink.held c.run_with.new.sink) (g.K.Sink.faults c.args.sink.now) (g.K.Sink.faults c.run_with.new.sink) in
    whole c.args.options.now a c.run_with.result _ plain (subst (λ (b : Bool). RunsBy b c.args.options.now a c.run_with.result) one c.run_with.ensures.runs) c.run_with.ensures.sent
