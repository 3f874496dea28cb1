use Rattle.std.proofs.Common.{ap, subst}
use Rattle.asp_propagate.specs.Propagating.{Propagating, IsReduced}
use Rattle.asp_propagate.proofs.PropagateLaws.{followed_reduced}
use Rattle.asp_propagate.proofs.LockLaws.{locks_lose, locks_given, locks_given_reduced, DropsGiven}
use Rattle.asp_propagate.proofs.engine.Engine.drop_given.Goals as goal

pub invariant_of-self : goal.invariant_of-self
invariant_of-self g c =
    let i = c.self.inside in
    let es = i.trail.entries in
    followed_reduced (λ p. g.P.Propagator.explains p (g.P.Propagator.bound c.self.inside.propagator)) (g.P.Propagator.told i.propagator) i.store c.lock_reasons-2.new.store i.trail i.told
    (locks_given_reduced es i.store c.lock_reasons.new.store c.drop_given.new.self c.lock_reasons-2.new.store c.self.invariant.unlocked
    c.lock_reasons.ensures c.drop_given.ensures.count c.drop_given.ensures.each c.lock_reasons-2.ensures)
    (locks_lose es i.store c.lock_reasons.new.store c.drop_given.new.self c.lock_reasons-2.new.store c.self.invariant.unlocked c.lock_reasons.ensures
    c.drop_given.ensures.loses c.lock_reasons-2.ensures)
    c.self.invariant

pub returns-clause-same : goal.returns-clause-same
returns-clause-same g c =
    let s = c.lock_reasons-2.new.store in
    ap (λ (x : Propagating). let y : Propagating = record x { slots = s.slots } in y) c.self.view_is

pub returns-clause-kept : goal.returns-clause-kept
returns-clause-kept g c =
    let i = c.self.inside in
    let es = i.trail.entries in
    subst (λ (x : Propagating). IsReduced x.entries x.slots c.lock_reasons-2.new.store.slots) c.self.view_is
    (locks_given_reduced es i.store c.lock_reasons.new.store c.drop_given.new.self c.lock_reasons-2.new.store c.self.invariant.unlocked
    c.lock_reasons.ensures c.drop_given.ensures.count c.drop_given.ensures.each c.lock_reasons-2.ensures)

pub returns-clause-each : goal.returns-clause-each
returns-clause-each g c =
    let i = c.self.inside in
    let es = i.trail.entries in
    subst (λ (x : Propagating). DropsGiven x.entries x.slots c.lock_reasons-2.new.store.slots) c.self.view_is
    (locks_given es i.store c.lock_reasons.new.store c.drop_given.new.self c.lock_reasons-2.new.store c.self.invariant.unlocked c.lock_reasons.ensures
    c.drop_given.ensures.each c.lock_reasons-2.ensures)
