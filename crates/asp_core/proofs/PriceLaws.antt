-- Programs with the same minimize statements price sets alike.
use Rattle.std.proofs.Common.{◌≡◌, List, map, ap}
use Rattle.asp_model.specs.declared.program.Minimize.{Minimize}
use Rattle.asp_model.specs.declared.program.Program.{Program}
use Rattle.asp_model.specs.Sets.{Atoms}
use Rattle.asp_model.specs.Costs.{priorities, cost_at, cost}

pub cost-priced : (p q : Program) (S : Atoms) → p.minimize ≡ q.minimize → cost p S ≡ cost q S
cost-priced p q S same = ap (λ (ms : List Minimize). map (cost_at S ms) (priorities ms)) same
