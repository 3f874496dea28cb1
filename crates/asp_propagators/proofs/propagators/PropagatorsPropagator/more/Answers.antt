use Rattle.std.proofs.Common.{subst}
use Rattle.std.specs.Prelude.{IfSome}
use Rattle.asp_vars.specs.Numbering.{var_count}
use Rattle.asp_bound.specs.Bounded.{Bounded}
use Rattle.asp_propagate.specs.Saying.{IsFollowing}
use Rattle.asp_propagators.specs.Saying.{explains}
use Rattle.asp_propagators.specs.LateLaws.{bounds-follow}
use Rattle.asp_propagators.proofs.propagators.PropagatorsPropagator.more.Goals as goal

pub returns-clause-follows : goal.returns-clause-follows
returns-clause-follows c =
    let es = c.args.trail.now.entries in
    subst (λ (b : Bounded). IfSome c.more.result (λ i. IsFollowing (explains b.told.program b.bound) (var_count b.told.program) es i.lit i.name)) c.self.view_is
    (bounds-follow c.self.inside.bound es c.more.result c.more.ensures.follows)
