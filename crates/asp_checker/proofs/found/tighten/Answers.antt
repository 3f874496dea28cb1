use Rattle.std.proofs.Common.{Some, ap, ◌∙◌}
use Rattle.std.specs.Prelude.{ℤ, List, Option}
use Rattle.asp_checker.proofs.JudgeLaws.{bound_last}
use Rattle.asp_checker.proofs.found.tighten.Goals as goal

pub returns-in_ok-least-in-Best-clause-cost : goal.returns-in_ok-least-in-Best-clause-cost
returns-in_ok-least-in-Best-clause-cost c =
    rw c.in-Best.is
    (ap (λ (d : List ℤ). let o : Option (List ℤ) = Some d in o) c.in_ok-least-in-Best.ensures.cost ∙ bound_last c.args.compiled.now c.args.before.now.sets c.args.set.now)
