use Rattle.asp_series.proofs.AskLaws.{tries-by}
use Rattle.asp_series.proofs.cores.try_others.Goals as goal

pub seek-requires-clause-sound : goal.seek-requires-clause-sound
seek-requires-clause-sound g c = c.requires.askable.sound

pub returns-clause-tries : goal.returns-clause-tries
returns-clause-tries g c =
    let x = c.args.asking.now in
    tries-by x.options.now x.program.now x.literals.now x.units c.in_ok-sought.sought c.verdict_of.result c.requires.askable.plain
    c.requires.askable.itself c.requires.none c.requires.askable.sound c.in_ok-sought.ensures.sought c.verdict_of.ensures
