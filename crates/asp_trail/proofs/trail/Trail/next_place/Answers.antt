use Rattle.std.proofs.Common.{◌∙◌, length, ap, arith}
use Rattle.asp_trail.specs.Trails.{Trailed}
use Rattle.asp_trail.proofs.trail.Trail.next_place.Goals as goal

pub overflow_cast-result : goal.overflow_cast-result
overflow_cast-result c =
    let few = c.value-value.ensures.rest c.requires.var.0 (c.value-value.ensures.value ∙ c.requires.none) in
    omega (arith, few, ap (λ (t : Trailed). t.vars) c.self.view_is, ap (λ (t : Trailed). length t.entries) c.self.view_is, c.self.inside.entries.ok.0)
