use Rattle.std.proofs.Common.{sym, ap, ◌∙◌, subst}
use Rattle.asp_trail.specs.Entries.{cut}
use Rattle.asp_trail.specs.Trails.{Trailed}
use Rattle.asp_propagate.specs.Propagating.{Propagating, IsFollowed}
use Rattle.asp_propagate.proofs.PropagateLaws.{followed_cut, followed_bound}
use Rattle.asp_propagate.proofs.EngineLaws.{same_view, cut_trail}
use Rattle.asp_propagate.proofs.engine.Engine.undo_to.Goals as goal

pub invariant_of-self : goal.invariant_of-self
invariant_of-self g c =
    let i = c.self.inside in
    let u = c.untell_above-self-inside.ensures in
    let q = c.undo_to.ensures in
    let new = c.untell_above-self-inside.new.propagator in
    subst (λ (x : Trailed). IsFollowed (λ p. g.P.Propagator.explains p (g.P.Propagator.bound new))
    (g.P.Propagator.told c.untell_above-self-inside.new.propagator) i.store x c.untell_above-self-inside.result)
    (sym (cut_trail i.trail c.undo_to.new.self c.args.level q.same q.entries q.seen))
    (followed_cut (λ p. g.P.Propagator.explains p (g.P.Propagator.bound new)) (g.P.Propagator.told i.propagator)
    (g.P.Propagator.told c.untell_above-self-inside.new.propagator) i.store i.trail i.told c.untell_above-self-inside.result c.args.level
    c.len-len.ensures.ordered.rising u.low u.kept u.program u.told
    (followed_bound g.P.Propagator.explains (g.P.Propagator.bound i.propagator) (g.P.Propagator.bound new) (g.P.Propagator.told i.propagator) i.store i.trail i.told u.bound c.self.invariant))

pub returns : goal.returns
returns g c =
    let i = c.self.inside in
    let u = c.untell_above-self-inside.ensures in
    same_view (g.P.Propagator.told c.untell_above-self-inside.new.propagator).program (g.P.Propagator.told i.propagator).program c.undo_to.new.self.entries (cut c.args.level i.trail.entries)
    i.store.slots (g.P.Propagator.bound c.untell_above-self-inside.new.propagator) (g.P.Propagator.bound i.propagator) u.program c.undo_to.ensures.entries u.bound
    ∙ ap (λ (x : Propagating). record x { entries = cut c.args.level x.entries }) c.self.view_is
