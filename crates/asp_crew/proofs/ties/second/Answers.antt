use Rattle.asp_crew.proofs.TieLaws.{may-search, second-is}
use Rattle.asp_crew.proofs.ties.second.Goals as goal

pub search-requires : goal.search-requires
search-requires g c = may-search c.args.compiled.now c.args.ask c.args.report.now (c.in-Some.best, c.in-Some.field-0-1) c.requires c.in-Finished.is c.in-Some.is

pub returns-in_ok-ties-in-Some-clause-second : goal.returns-in_ok-ties-in-Some-clause-second
returns-in_ok-ties-in-Some-clause-second g c =
    second-is c.args.compiled.now c.args.ask c.args.report.now c.in_ok-ties-in-Some.ties (c.in-Some.best, c.in-Some.field-0-1)
    c.left-left.result c.requires c.if-not-ask.false c.in-Finished.is c.in-Some.is c.left-left.ensures.left c.in_ok-ties-in-Some.ensures.ties
