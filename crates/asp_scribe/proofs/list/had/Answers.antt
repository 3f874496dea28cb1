use Rattle.asp_scribe.proofs.list.had.Goals as goal

pub has-requires-clause-row : goal.has-requires-clause-row
has-requires-clause-row c = c.requires.last c.in-Some.row c.in-Some.is
