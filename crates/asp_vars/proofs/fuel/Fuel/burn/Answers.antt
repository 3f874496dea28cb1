use Rattle.std.proofs.Common.{◌≡◌, ◌+◌, ◌-◌, ◌||◌, refl, sym, ap, ◌∙◌, arith}
use Rattle.asp_vars.specs.Paid.{Clash, Units, least_of}
use Rattle.asp_vars.proofs.PaidLaws.{IsPaid-burn}
use Rattle.asp_vars.proofs.fuel.Fuel.burn.Goals as goal

pub invariant_of-self : goal.invariant_of-self
invariant_of-self c =
    let f = c.self.inside in
    let y = c.conflict.inside in
    let u : Units = record { program = f.program.value; left = f.left; burnt = f.burnt; reasoned = f.reasoned; known = f.known; least = f.least } in
    let w : Units = record { program = f.program.value; left = f.left - 1; burnt = f.burnt + 1; reasoned = f.reasoned || c.is_some.result; known = c.max-self-inside.result; least = c.least.result } in
    let x : Clash = record { program = y.program.value; cube = y.cube.items; decisions = y.decisions.items; nogood = y.nogood.items; reasoning = y.reasoning; known = y.known; bound = y.bound } in
    let of_program : x.program ≡ u.program =
    ap (λ (z : Clash). z.program) c.conflict.view_is ∙ c.requires.program ∙ sym (ap (λ (z : Units). z.program) c.self.view_is) in
    let least_is : c.least.result ≡ least_of u.least x.bound = c.least.ensures ∙ ap (λ l. least_of l x.bound) c.take.ensures.value in
    let left_is : f.left ≡ c.args.self.now.left = ap (λ (z : Units). z.left) c.self.view_is in (
      omega (arith, left_is, c.requires.left, c.self.invariant.0),
      IsPaid-burn u w x refl of_program refl (ap (λ b. f.reasoned || b) c.is_some.ensures)
          c.max-self-inside.ensures least_is c.self.invariant.1 c.conflict.invariant,
    )
