use Rattle.std.proofs.Common.{List, ℕ, subst}
use Rattle.std.specs.Io.KnownBytes.{Appends}
use Rattle.asp_series.specs.Asking.{answered_of}
use Rattle.asp_series.proofs.SeriesLaws.{breaks, step-means, text-answered}
use Rattle.asp_series.proofs.series.hand_over.Goals as goal

pub gone_on-requires-clause-paid : goal.gone_on-requires-clause-paid
gone_on-requires-clause-paid g c = c.requires.reply.answered.spent.1

pub returns-in-Ok-clause-means : goal.returns-in-Ok-clause-means
returns-in-Ok-clause-means g c =
    let x = c.args.asking.now in
    let text = text-answered x.options.now x.program.now x.literals.now c.args.course.left c.args.number c.args.reply.now c.requires.plain c.requires.reply in
    step-means x.options.now x.program.now x.literals.now c.args.number c.args.course c.gone_on.result _ _ _ _ (answered_of c.args.reply.now) c.requires.reply.answered
    (subst (λ (t : List ℕ). Appends (g.K.Sink.held c.args.sink.now) (g.K.Sink.held c.tell.new.sink) t) text c.in-Ok.ensures.writes.all) c.in-Ok.ensures.writes.quiet c.gone_on.ensures.gone

pub returns-in-Err-clause-means : goal.returns-in-Err-clause-means
returns-in-Err-clause-means g c =
    let x = c.args.asking.now in
    breaks x.options.now x.program.now x.literals.now c.args.number c.args.course _ _ _ _ c.args.reply.now _ c.requires.reply
    (text-answered x.options.now x.program.now x.literals.now c.args.course.left c.args.number c.args.reply.now c.requires.plain c.requires.reply)
    c.in-Err.ensures.writes.front c.in-Err.ensures.writes.cause c.in-Err.ensures.writes.later
