use Rattle.asp_search.proofs.search.Search.if_open.Goals as goal

pub returns-then-is_open : goal.returns-then-is_open
returns-then-is_open g c = λ q e. (c.is_open.ensures q e).0 c.if-is_open.true
