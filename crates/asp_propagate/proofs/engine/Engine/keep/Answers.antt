use Rattle.std.proofs.Common.{◌≡◌, ℕ, refl, sym, ap, ◌∙◌, subst}
use Rattle.std.specs.List.{All}
use Rattle.std.specs.Result.{IfOk}
use Rattle.asp_trail.specs.Trails.{IsVar}
use Rattle.asp_store.specs.Storing.{Stored, IsAdded}
use Rattle.asp_propagate.specs.Propagating.{Propagating, Keeps}
use Rattle.asp_propagate.proofs.EngineLaws.{view_of, vars_are, if_ok, on_err, kept_either}
use Rattle.asp_propagate.proofs.engine.Engine.keep.Goals as goal

pub add-requires : goal.add-requires
add-requires g c =
    let i = c.self.inside in
    subst (λ (n : ℕ). All (λ l. IsVar n l.var) c.args.nogood.lits)
    (sym (sym c.self.invariant.fits.same_vars
    ∙ vars_are (λ p. g.P.Propagator.explains p (g.P.Propagator.bound c.self.inside.propagator)) (g.P.Propagator.told i.propagator)
    (g.P.Propagator.bound i.propagator) i.store i.trail i.told c.args.self.now c.self.view_is c.self.invariant))
    c.requires

pub invariant_of-self : goal.invariant_of-self
invariant_of-self g c =
    let i = c.self.inside in
    kept_either (λ p. g.P.Propagator.explains p (g.P.Propagator.bound c.self.inside.propagator)) c.add.result (g.P.Propagator.told i.propagator)
    i.store c.add.new.self i.trail i.told c.args.nogood c.args.kind c.add.ensures.ok c.add.ensures.err c.self.invariant

pub returns-clause-ok : goal.returns-clause-ok
returns-clause-ok g c =
    let i = c.self.inside in
    let t = g.P.Propagator.told i.propagator in
    let b = g.P.Propagator.bound i.propagator in
    subst (λ (x : Propagating). IfOk c.add.result (λ id. Keeps x (view_of t b c.add.new.self i.trail) id c.args.nogood c.args.kind)) c.self.view_is
    (if_ok c.add.result (λ id. IsAdded i.store c.add.new.self id c.args.nogood c.args.kind)
    (λ id. Keeps (view_of t b i.store i.trail) (view_of t b c.add.new.self i.trail) id c.args.nogood c.args.kind)
    (λ id a. record { same = refl; slots = a.slots }) c.add.ensures.ok)

pub returns-clause-err : goal.returns-clause-err
returns-clause-err g c =
    let i = c.self.inside in
    let t = g.P.Propagator.told i.propagator in
    let b = g.P.Propagator.bound i.propagator in
    on_err c.add.result (c.add.new.self ≡ i.store) (view_of t b c.add.new.self i.trail ≡ c.args.self.now)
    (λ q. ap (λ (x : Stored). view_of t b x i.trail) q ∙ c.self.view_is) c.add.ensures.err
