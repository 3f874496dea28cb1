use Rattle.std.proofs.Common.{◌-◌, refl, arith}
use Rattle.asp_vars.specs.Paid.{Units}
use Rattle.asp_vars.proofs.PaidLaws.{IsPaid-left}
use Rattle.asp_vars.proofs.fuel.Fuel.part.Goals as goal

pub invariant_of-self : goal.invariant_of-self
invariant_of-self c =
    let f = c.self.inside in
    let u : Units = record { program = f.program.value; left = f.left; burnt = f.burnt; reasoned = f.reasoned; known = f.known; least = f.least } in
    let w : Units = record { program = f.program.value; left = f.left - c.args.n; burnt = f.burnt; reasoned = f.reasoned; known = f.known; least = f.least } in
    (omega (arith, c.self.invariant.0), IsPaid-left u w refl refl refl refl refl c.self.invariant.1)
