use Rattle.asp_series.proofs.ask.search_left.Goals as goal

pub returns-in-Ok-clause-sought : goal.returns-in-Ok-clause-sought
returns-in-Ok-clause-sought g c = rw c.in-Ok.ensures.same at c.search.ensures.searches
