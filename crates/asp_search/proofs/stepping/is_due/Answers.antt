use Rattle.asp_search.proofs.stepping.is_due.Goals as goal

pub returns : goal.returns
returns g c = c.is_due.ensures.least
