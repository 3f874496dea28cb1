use Rattle.std.proofs.Common.{◌∙◌, ap, sym}
use Rattle.asp_cli.specs.Given.{given_of}
use Rattle.asp_top.specs.Runs.{around}
use Rattle.asp_top.proofs.WholeLaws.{whole-on}
use Rattle.asp_top.proofs.runs.run.Goals as goal

pub returns-in-Ok-clause-whole : goal.returns-in-Ok-clause-whole
returns-in-Ok-clause-whole g c = λ given is plain one.
    let a = around (g.S.Source.left c.args.source.now) (g.S.Source.left c.run_given.new.source) (g.S.Source.faults c.args.source.now) (g.S.Source.faults c.run_given.new.source)
    (g.K.Sink.held c.args.sink.now) (g.K.Sink.held c.run_given.new.sink) (g.K.Sink.faults c.args.sink.now) (g.K.Sink.faults c.run_given.new.sink) in
    whole-on c.in-Ok.options given _ a c.run_given.result _ (sym (ap given_of c.in-Ok.is) ∙ c.words.ensures.answers) c.run_given.ensures.runs c.run_given.ensures.sent is plain one
