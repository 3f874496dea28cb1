use Rattle.std.proofs.Common.{◌≡◌, ℕ, ◌≤◌, true, sym, ◌∙◌, subst}
use Rattle.std.specs.Result.{IfOk}
use Rattle.std.specs.Option.{is_some}
use Rattle.asp_vars.specs.Literals.{value_of}
use Rattle.asp_trail.specs.Entries.{assignment}
use Rattle.asp_propagate.specs.Propagating.{Propagating}
use Rattle.asp_propagate.specs.Late.{CanAsk, IsSaid}
use Rattle.asp_propagate.proofs.LateLaws.{late_of, late_var, late_has, late_explained, late_told_at, written_said}
use Rattle.asp_propagate.proofs.engine.EngineReasons.write.Goals as goal

pub place_of-place-requires-clause-small : goal.place_of-place-requires-clause-small
place_of-place-requires-clause-small g c =
    let i = c.self.inside in
    let why = g.P.Propagator.explains (g.P.Propagator.told i.propagator).program (g.P.Propagator.bound i.propagator) in
    let asks = subst (λ (x : Propagating). CanAsk (g.P.Propagator.explains x.program x.bound) x.slots x.entries c.args.lit c.args.id) (sym c.self.view_is) c.requires in
    let x = late_of why i.store.slots i.trail.entries c.args.lit c.args.id asks c.if-id-lt-LATE.false in
    subst (λ (v : ℕ). v ≤ i.trail.vars) (sym c.var.ensures) (late_var i.trail.vars why i.trail.entries c.args.lit c.args.id c.len-len.ensures.ordered x)

pub place_of-place-requires-clause-has : goal.place_of-place-requires-clause-has
place_of-place-requires-clause-has g c =
    let i = c.self.inside in
    let why = g.P.Propagator.explains (g.P.Propagator.told i.propagator).program (g.P.Propagator.bound i.propagator) in
    let asks = subst (λ (x : Propagating). CanAsk (g.P.Propagator.explains x.program x.bound) x.slots x.entries c.args.lit c.args.id) (sym c.self.view_is) c.requires in
    let x = late_of why i.store.slots i.trail.entries c.args.lit c.args.id asks c.if-id-lt-LATE.false in
    subst (λ (v : ℕ). is_some (value_of (assignment i.trail.vars i.trail.entries) v) ≡ true) (sym c.var.ensures)
    (late_has i.trail.vars why i.trail.entries c.args.lit c.args.id c.len-len.ensures.ordered x)

pub explain-requires-clause-explained : goal.explain-requires-clause-explained
explain-requires-clause-explained g c =
    let i = c.self.inside in
    let why = g.P.Propagator.explains (g.P.Propagator.told i.propagator).program (g.P.Propagator.bound i.propagator) in
    let asks = subst (λ (x : Propagating). CanAsk (g.P.Propagator.explains x.program x.bound) x.slots x.entries c.args.lit c.args.id) (sym c.self.view_is) c.requires in
    let x = late_of why i.store.slots i.trail.entries c.args.lit c.args.id asks c.if-id-lt-LATE.false in
    late_explained i.trail.vars why i.trail.entries c.args.lit c.args.id c.place_of-place.result c.len-len.ensures.ordered x c.place_of-place.ensures.within
    (λ d. c.place_of-place.ensures.var d ∙ c.var.ensures)

pub returns : goal.returns
returns g c =
    let i = c.self.inside in
    subst (λ (x : Propagating). IfOk c.explain.result (IsSaid (g.P.Propagator.late x.program x.bound) x.slots x.entries c.args.lit c.args.id)) c.self.view_is
    (written_said i.trail.vars (g.P.Propagator.late (g.P.Propagator.told i.propagator).program (g.P.Propagator.bound i.propagator)) i.store.slots
    i.trail.entries c.args.lit c.args.id c.place_of-place.result c.explain.result
    c.len-len.ensures.ordered c.if-id-lt-LATE.false c.place_of-place.ensures.within (λ d. c.place_of-place.ensures.var d ∙ c.var.ensures) c.explain.ensures.late c.explain.ensures.reason)

pub explain-requires-clause-told : goal.explain-requires-clause-told
explain-requires-clause-told g c =
    let i = c.self.inside in
    let why = g.P.Propagator.explains (g.P.Propagator.told i.propagator).program (g.P.Propagator.bound i.propagator) in
    let asks = subst (λ (x : Propagating). CanAsk (g.P.Propagator.explains x.program x.bound) x.slots x.entries c.args.lit c.args.id) (sym c.self.view_is) c.requires in
    let x = late_of why i.store.slots i.trail.entries c.args.lit c.args.id asks c.if-id-lt-LATE.false in
    late_told_at (g.P.Propagator.told i.propagator) i.trail i.told why c.args.lit c.args.id c.place_of-place.result c.len-len.ensures.ordered
    c.self.invariant.told c.self.invariant.late_told x c.place_of-place.ensures.within (λ d. c.place_of-place.ensures.var d ∙ c.var.ensures)
