use Rattle.std.proofs.Common.{◌∙◌, ap, arith}
use Rattle.asp_trail.specs.Trails.{Trailed}
use Rattle.asp_trail.proofs.trail.Trail.level_before.Goals as goal

pub overflow_cast-result : goal.overflow_cast-result
overflow_cast-result c =
    let few = c.value-value.ensures.rest c.requires.var.0 (c.value-value.ensures.value ∙ c.requires.none) in
    omega (arith, few, ap (λ (t : Trailed). t.vars) c.self.view_is)

pub returns-clause-few : goal.returns-clause-few
returns-clause-few c = let few = c.value-value.ensures.rest c.requires.var.0 (c.value-value.ensures.value ∙ c.requires.none) in omega (arith, few)
