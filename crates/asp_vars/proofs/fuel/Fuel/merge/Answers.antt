use Rattle.std.proofs.Common.{◌≡◌, ◌+◌, ◌||◌, refl, sym, ap, ◌∙◌, arith}
use Rattle.asp_vars.specs.Paid.{Units, least_of}
use Rattle.asp_vars.proofs.PaidLaws.{IsPaid-merge}
use Rattle.asp_vars.proofs.fuel.Fuel.merge.Goals as goal

pub invariant_of-self : goal.invariant_of-self
invariant_of-self c =
    let f = c.self.inside in
    let g = c.other.inside in
    let u : Units = record { program = f.program.value; left = f.left; burnt = f.burnt; reasoned = f.reasoned; known = f.known; least = f.least } in
    let v : Units = record { program = g.program.value; left = g.left; burnt = g.burnt; reasoned = g.reasoned; known = g.known; least = g.least } in
    let w : Units = record {
      program = f.program.value;
      left = f.left + g.left;
      burnt = f.burnt + g.burnt;
      reasoned = f.reasoned || g.reasoned;
      known = c.max-self-inside.result;
      least = c.least.result;
    } in
    let of_program : v.program ≡ u.program =
    ap (λ (z : Units). z.program) c.other.view_is ∙ c.requires.program ∙ sym (ap (λ (z : Units). z.program) c.self.view_is) in
    let least_is : c.least.result ≡ least_of u.least v.least = c.least.ensures ∙ ap (λ l. least_of l v.least) c.take.ensures.value in
    let a : f.left ≡ c.args.self.now.left = ap (λ (z : Units). z.left) c.self.view_is in
    let b : f.burnt ≡ c.args.self.now.burnt = ap (λ (z : Units). z.burnt) c.self.view_is in
    let d : g.left ≡ c.args.other.left = ap (λ (z : Units). z.left) c.other.view_is in
    let e : g.burnt ≡ c.args.other.burnt = ap (λ (z : Units). z.burnt) c.other.view_is in
    (omega (arith, a, b, d, e, c.requires.fits), IsPaid-merge u v w refl of_program refl refl c.max-self-inside.ensures least_is c.self.invariant.1 c.other.invariant.1)
