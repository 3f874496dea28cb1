use Rattle.asp_query.proofs.KeptLaws.{fresh-entered}
use Rattle.asp_query.proofs.kept.begin.Goals as goal

pub returns : goal.returns
returns c = fresh-entered c.args.compiled.now _ c.in_ok-search.search c.enter.new.self c.in_ok-search.ensures.same c.in_ok-enter.ensures.ok
