use Rattle.asp_series.proofs.ask.seek.Goals as goal

pub returns-clause-sought : goal.returns-clause-sought
returns-clause-sought g c = rw c.in_ok-asked.ensures at c.search_left.ensures.sought
