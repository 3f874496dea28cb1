use Rattle.std.proofs.Common.{◌≡◌, ℕ, ◌<◌, ◌≤◌, length, None, refl, sym, ap, ◌∙◌, subst, arith}
use Rattle.asp_vars.specs.Literals.{value_of}
use Rattle.asp_trail.specs.declared.trail.Entry.{Entry}
use Rattle.asp_trail.specs.Entries.{assignment, level}
use Rattle.asp_trail.specs.Trails.{Trailed}
use Rattle.asp_propagate.specs.Propagating.{Propagating, IsFollowed, with_entry}
use Rattle.asp_propagate.proofs.PropagateLaws.{followed_open}
use Rattle.asp_propagate.proofs.EngineLaws.{view_of, var_inside, none_inside}
use Rattle.asp_propagate.proofs.engine.Engine.assume.Goals as goal

pub value-value-requires : goal.value-value-requires
value-value-requires g c =
    let i = c.self.inside in
    subst (λ (v : ℕ). v ≤ i.trail.vars) (sym c.var.ensures)
    (var_inside (λ p. g.P.Propagator.explains p (g.P.Propagator.bound c.self.inside.propagator)) (g.P.Propagator.told i.propagator)
    (g.P.Propagator.bound i.propagator) i.store i.trail i.told c.args.self.now c.args.lit.var c.self.view_is c.self.invariant
    c.requires.var).1

pub assume-requires-clause-var : goal.assume-requires-clause-var
assume-requires-clause-var g c =
    let i = c.self.inside in
    var_inside (λ p. g.P.Propagator.explains p (g.P.Propagator.bound c.self.inside.propagator)) (g.P.Propagator.told i.propagator)
    (g.P.Propagator.bound i.propagator) i.store i.trail i.told c.args.self.now c.args.lit.var c.self.view_is c.self.invariant c.requires.var

pub assume-requires-clause-none : goal.assume-requires-clause-none
assume-requires-clause-none g c =
    let i = c.self.inside in
    none_inside (λ p. g.P.Propagator.explains p (g.P.Propagator.bound c.self.inside.propagator)) (g.P.Propagator.told i.propagator)
    (g.P.Propagator.bound i.propagator) i.store i.trail i.told c.args.self.now c.args.lit.var c.self.view_is c.self.invariant c.requires.none

pub assume-requires-clause-room : goal.assume-requires-clause-room
assume-requires-clause-room g c =
    let i = c.self.inside in
    let none =
    none_inside (λ p. g.P.Propagator.explains p (g.P.Propagator.bound c.self.inside.propagator)) (g.P.Propagator.told i.propagator)
    (g.P.Propagator.bound i.propagator) i.store i.trail i.told c.args.self.now c.args.lit.var c.self.view_is c.self.invariant c.requires.none in
    let some : 0 < c.var.result = omega (arith, c.var.ensures, c.requires.var.0) in
    let few : length i.trail.entries < i.trail.vars =
    c.value-value.ensures.rest some (c.value-value.ensures.value ∙ (ap (value_of (assignment i.trail.vars i.trail.entries)) c.var.ensures ∙ none)) in
    omega (arith, few, c.self.invariant.room)

pub assume-requires-clause-level : goal.assume-requires-clause-level
assume-requires-clause-level g c = subst (λ (x : Propagating). level x.entries ≡ 0) (sym c.self.view_is) c.requires.level

pub invariant_of-self : goal.invariant_of-self
invariant_of-self g c =
    let i = c.self.inside in
    let t = g.P.Propagator.told i.propagator in
    let e : Entry = record { lit = c.args.lit; level = 0; reason = None } in
    let le : i.trail.seen ≤ length i.trail.entries = omega (arith, c.len-len.ensures.seen, c.len-len.ensures.len) in
    subst (λ (x : Trailed). IsFollowed (λ p. g.P.Propagator.explains p (g.P.Propagator.bound c.self.inside.propagator)) t i.store x i.told)
    (sym c.assume.ensures) (followed_open (λ p. g.P.Propagator.explains p (g.P.Propagator.bound c.self.inside.propagator)) t i.store i.trail
    i.told e le refl c.self.invariant)

pub returns : goal.returns
returns g c =
    let i = c.self.inside in
    ap (view_of (g.P.Propagator.told i.propagator) (g.P.Propagator.bound i.propagator) i.store) c.assume.ensures
    ∙ ap (λ (x : Propagating). with_entry x c.args.lit 0 None) c.self.view_is
