use Rattle.asp_top.proofs.EndLaws.{some-first}
use Rattle.asp_top.proofs.stream.has_answer.Goals as goal

pub returns-then-len-ne0 : goal.returns-then-len-ne0
returns-then-len-ne0 c = some-first c.args.listing.now.sets c.args.rest.now.sets c.len.result c.len.ensures c.if-len-ne0.true
