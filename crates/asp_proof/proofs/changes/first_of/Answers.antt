use Rattle.asp_proof.proofs.ChangeLaws.{none_left, only_here, less_here, less_there}
use Rattle.asp_proof.proofs.changes.first_of.Goals as goal

pub returns-in_default-split_first : goal.returns-in_default-split_first
returns-in_default-split_first c =
    only_here c.args.one.now c.args.other.now c.in-Some.rest.now c.in-Some.first.now c.in-Some.ensures.cases.0
    (none_left c.args.other.now c.in_default-split_first.ensures.cases) c.requires.one

pub returns-then-first-second : goal.returns-then-first-second
returns-then-first-second c = less_here c.args.one.now c.args.other.now c.in-Some.rest.now c.in-Some-split_first-2.others.now c.in-Some.first.now c.in-Some-split_first-2.second.now
    c.in-Some.ensures.cases.0 c.in-Some-split_first-2.ensures.cases.0 c.requires.one c.requires.other c.if-first-second.true

pub returns-then-second-first : goal.returns-then-second-first
returns-then-second-first c = less_there c.args.one.now c.args.other.now c.in-Some.rest.now c.in-Some-split_first-2.others.now c.in-Some.first.now c.in-Some-split_first-2.second.now
    c.in-Some.ensures.cases.0 c.in-Some-split_first-2.ensures.cases.0 c.requires.one c.requires.other c.if-second-first.true
