use Rattle.std.proofs.Common.{Option, IfSome, subst}
use Rattle.asp_vars.specs.Literals.{Literal}
use Rattle.asp_search.specs.Beside.{IsOpen}
use Rattle.asp_worker.proofs.share.shed.Goals as goal

pub split_on-requires-clause-open : goal.split_on-requires-clause-open
split_on-requires-clause-open g c = λ q e. subst (λ (x : Option Literal). IfSome x (IsOpen c.args.engine.now.search.program q)) c.in-Some.is (c.searched.ensures q e)
