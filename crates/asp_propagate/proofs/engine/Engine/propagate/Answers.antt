use Rattle.std.proofs.Common.{ℕ, List, Option, sym, ap, ◌∙◌, subst}
use Rattle.std.specs.Prelude.{ℤ, IfOk, IfSome, IfNone}
use Rattle.asp_model.specs.declared.program.Program.{Program}
use Rattle.asp_trail.specs.Entries.{assignment}
use Rattle.asp_store.specs.Walking.{IsViolated}
use Rattle.asp_propagate.specs.Propagating.{Propagating, Adds, Implies, IsFixpoint}
use Rattle.asp_propagate.proofs.engine.Engine.propagate.Goals as goal

pub returns-clause-program : goal.returns-clause-program
returns-clause-program g c = c.propagate.ensures.goes.program ∙ ap (λ (x : Propagating). x.program) c.self.view_is

pub returns-clause-bound : goal.returns-clause-bound
returns-clause-bound g c = c.propagate.ensures.goes.bound_stays ∙ ap (λ (x : Propagating). x.bound) c.self.view_is

pub returns-clause-adds : goal.returns-clause-adds
returns-clause-adds g c =
    subst (λ (x : Propagating). Adds (g.P.Propagator.gives x.program x.bound) x.slots c.propagate.new.store.slots) c.self.view_is c.propagate.ensures.goes.adds

pub returns-clause-implies : goal.returns-clause-implies
returns-clause-implies g c =
    subst (λ (x : Propagating). Implies x.entries c.propagate.new.trail.entries) c.self.view_is c.propagate.ensures.goes.implies

pub returns-clause-reasons : goal.returns-clause-reasons
returns-clause-reasons g c = c.propagate.ensures.followed.fits.reasons

pub returns-clause-fixpoint : goal.returns-clause-fixpoint
returns-clause-fixpoint g c =
    let e = c.propagate.ensures in
    let s = c.propagate.new.store.slots in
    let es = c.propagate.new.trail.entries in
    let b = g.P.Propagator.bound c.propagate.new.propagator in
    let silent = g.P.Propagator.silent in
    subst (λ (n : ℕ). IfOk c.propagate.result (λ r. IfNone r (IsFixpoint (silent (g.P.Propagator.told c.propagate.new.propagator).program b) s (assignment n es)))) e.followed.told.vars
    (subst (λ (x : Option (List ℤ)). IfOk c.propagate.result
    (λ r. IfNone r
    (IsFixpoint (silent (g.P.Propagator.told c.propagate.new.propagator).program x) s (assignment c.propagate.new.trail.vars es))))
    (sym e.goes.bound_stays)
    (subst (λ (p : Program). IfOk c.propagate.result
    (λ r. IfNone r (IsFixpoint (silent p (g.P.Propagator.bound c.self.inside.propagator)) s (assignment c.propagate.new.trail.vars es))))
    (sym e.goes.program) e.fixpoint))

pub returns-clause-violated : goal.returns-clause-violated
returns-clause-violated g c =
    let e = c.propagate.ensures in
    subst (λ (n : ℕ). IfOk c.propagate.result (λ r. IfSome r (IsViolated n c.propagate.new.store.slots c.propagate.new.trail.entries))) e.followed.told.vars e.violated
