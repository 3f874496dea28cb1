use Rattle.std.proofs.Common.{true}
use Rattle.std.proofs.lemmas.Result.{IfOk-weaker}
use Rattle.asp_team.proofs.many.solve.Goals as goal

pub returns-clause-shared : goal.returns-clause-shared
returns-clause-shared g c = IfOk-weaker c.solve_with.result.0 _ _ (λ r shared. shared true (λ _. tt)) c.solve_with.ensures.shared
