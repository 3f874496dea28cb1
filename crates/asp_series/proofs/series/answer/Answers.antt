use Rattle.std.proofs.Common.{ℕ, ◌+◌, ap, refl}
use Rattle.asp_series.proofs.FindLaws.{found-core, query-refuted}
use Rattle.asp_series.proofs.SeriesLaws.{reply-is}
use Rattle.asp_series.proofs.series.answer.Goals as goal

pub core_of-requires-clause-none : goal.core_of-requires-clause-none
core_of-requires-clause-none g c =
    let x = c.args.asking.now in
    query-refuted x.options.now x.program.now x.literals.now x.units c.in_ok-sought.sought c.requires.askable.plain c.requires.askable.itself c.requires.askable.sound
    c.in_ok-sought.ensures.found

pub core_of-requires-clause-kept : goal.core_of-requires-clause-kept
core_of-requires-clause-kept g c =
    let x = c.args.asking.now in
    found-core x.options.now x.program.now x.literals.now x.units c.in_ok-sought.sought c.in_ok-sought.ensures.found

pub returns-in-Ok-clause-reply : goal.returns-in-Ok-clause-reply
returns-in-Ok-clause-reply g c =
    let x = c.args.asking.now in
    reply-is x.options.now x.program.now x.literals.now x.units c.in_ok-sought.sought c.in-Ok.core _ _ c.requires.askable.plain c.requires.askable.sound c.in_ok-sought.ensures.found
    refl c.in-Ok.ensures.reason (ap (λ (n : ℕ). c.in_ok-sought.sought.report.spent + n) c.spent_in.ensures)
