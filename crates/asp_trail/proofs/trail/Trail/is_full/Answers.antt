use Rattle.std.proofs.Common.{ℕ, ◌<◌, length, subst}
use Rattle.std.specs.Prelude.{IsSome}
use Rattle.asp_vars.specs.Literals.{value_of}
use Rattle.asp_trail.specs.Entries.{assignment}
use Rattle.asp_trail.specs.Trails.{Trailed, IsVar}
use Rattle.asp_trail.proofs.TrailLaws.{all_set, some_open}
use Rattle.asp_trail.proofs.trail.Trail.is_full.Goals as goal

pub returns-clause-full : goal.returns-clause-full
returns-clause-full c = λ e.
    subst (λ (t : Trailed). (v : ℕ) → IsVar t.vars v → IsSome (value_of (assignment t.vars t.entries) v)) c.self.view_is
    (all_set c.self.inside.vars c.self.inside.entries.items c.self.inside.values c.self.inside.places.items c.self.inside.levels.items
    c.self.inside.seen c.self.invariant c.as_slice.result.now c.as_slice.ensures.value e)

pub returns-clause-open : goal.returns-clause-open
returns-clause-open c = λ e.
    subst (λ (t : Trailed). length t.entries < t.vars) c.self.view_is (some_open c.self.inside.vars c.self.inside.entries.items c.as_slice.result.now c.as_slice.ensures.value e)
