use Rattle.std.proofs.Common.{refl, ◌∙◌}
use Rattle.asp_top.proofs.AfterLaws.{best-is, best-there, first-is, list-none, list-some, some-first, some-none, told-first, told-none}
use Rattle.asp_top.proofs.stream.tell.Goals as goal

-- ---- all answers
pub tell-requires-clause-all : goal.tell-requires-clause-all
tell-requires-clause-all g c = c.requires.all ∙ list-none c.args.first.now c.args.compiled.now c.in-None.is

pub returns-in-None-clause-told : goal.returns-in-None-clause-told
returns-in-None-clause-told g c = told-none c.tell.result c.args.first.now c.args.compiled.now c.args.budget _ _ c.in-None.is c.tell.ensures.told

pub returns-in-None-clause-some : goal.returns-in-None-clause-some
returns-in-None-clause-some g c = some-none c.tell.result c.args.first.now _ c.in-None.is

-- ---- all optima
pub unreachable-requires : goal.unreachable-requires
unreachable-requires g c = best-there _ c.args.compiled.now c.args.budget (first-is c.args.first.now _ c.args.compiled.now c.args.budget c.in-Some.is c.requires.first) c.in-None-best.is

pub stream_ties-requires-clause-best : goal.stream_ties-requires-clause-best
stream_ties-requires-clause-best g c =
    best-is _ c.args.compiled.now c.args.budget (c.in-Some-best.best, c.in-Some-best.field-0-1)
    (first-is c.args.first.now _ c.args.compiled.now c.args.budget c.in-Some.is c.requires.first) c.in-Some-best.is

pub stream_ties-requires-clause-all : goal.stream_ties-requires-clause-all
stream_ties-requires-clause-all g c = c.requires.all ∙ list-some c.args.first.now _ c.args.compiled.now c.in-Some.is

pub returns-in-Some-best-clause-told : goal.returns-in-Some-best-clause-told
returns-in-Some-best-clause-told g c =
    told-first c.stream_ties.result c.args.first.now _ c.args.compiled.now c.args.budget c.left-left.result c.in-Some-best.best (c.in-Some-best.best, c.in-Some-best.field-0-1) _ _ c.in-Some.is
    c.in-Some-best.is refl c.left-left.ensures.left c.stream_ties.ensures.told

pub returns-in-Some-best-clause-some : goal.returns-in-Some-best-clause-some
returns-in-Some-best-clause-some g c = some-first c.stream_ties.result c.args.first.now _ _ c.in-Some.is c.stream_ties.ensures.some
