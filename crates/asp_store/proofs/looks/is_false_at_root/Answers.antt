use Rattle.std.proofs.Common.{arith}
use Rattle.std.proofs.lemmas.Bool.{eqb-true}
use Rattle.asp_store.proofs.looks.is_false_at_root.Goals as goal

pub is_quick-requires-clause-top : goal.is_quick-requires-clause-top
is_quick-requires-clause-top c = λ t k d h. omega (arith, c.level.ensures.top k d h, eqb-true c.level.result 0 t)
