use Rattle.std.proofs.Common.{arith}
use Rattle.std.proofs.lemmas.Bool.{eqb-true}
use Rattle.asp_store.proofs.visits.is_false_by.Goals as goal

pub is_quick-requires-clause-small : goal.is_quick-requires-clause-small
is_quick-requires-clause-small c = c.requires

pub is_quick-requires-clause-top : goal.is_quick-requires-clause-top
is_quick-requires-clause-top c = λ t k d h. omega (arith, c.level.ensures.top k d h, eqb-true c.args.front.now.level c.level.result t)

pub returns : goal.returns
returns c = c.is_quick.ensures
