use Rattle.std.proofs.Common.{sym, ap, ◌∙◌, subst, refl, arith}
use Rattle.asp_trail.specs.Trails.{Trailed}
use Rattle.asp_store.specs.declared.propagation.Propagated.{Propagated}
use Rattle.asp_store.specs.Walking.{Propagates}
use Rattle.asp_propagate.specs.Propagating.{WasTold}
use Rattle.asp_propagate.proofs.PropagateLaws.{followed_settled, followed_bound, told_settled, goes_settled, fixpoint_settled, violated_settled}
use Rattle.asp_propagate.proofs.rounds.settle.Goals as goal

pub tell-requires : goal.tell-requires
tell-requires g c =
    let p = c.propagate in
    told_settled (g.P.Propagator.told c.args.propagator.now) c.args.trail.now p.new.trail c.args.told.now c.args.store.now.slots p.ensures.trail p.ensures.extends c.requires.told

pub returns-in-Violated-clause-followed : goal.returns-in-Violated-clause-followed
returns-in-Violated-clause-followed g c =
    let p = c.propagate in
    let t = g.P.Propagator.told c.args.propagator.now in
    let n = c.args.told.now in
    followed_settled (λ x. g.P.Propagator.explains x (g.P.Propagator.bound c.args.propagator.now)) t t c.args.store.now p.new.self c.args.trail.now
    p.new.trail n n p.ensures.slots p.ensures.trail p.ensures.fits
    (told_settled t c.args.trail.now p.new.trail n c.args.store.now.slots p.ensures.trail p.ensures.extends c.requires.told) refl p.ensures.few (omega arith) p.ensures.extends c.requires

pub returns-in-Violated-clause-goes : goal.returns-in-Violated-clause-goes
returns-in-Violated-clause-goes g c =
    let p = c.propagate in
    let t = g.P.Propagator.told c.args.propagator.now in
    let b = g.P.Propagator.bound c.args.propagator.now in
    goes_settled (g.P.Propagator.gives t.program b) t t b b c.args.store.now p.new.self c.args.trail.now.entries p.new.trail.entries refl refl
    p.ensures.slots p.ensures.extends

pub returns-in-Violated-clause-violated : goal.returns-in-Violated-clause-violated
returns-in-Violated-clause-violated g c =
    let p = c.propagate in
    violated_settled c.args.store.now.vars p.new.trail.vars c.args.store.now.slots p.new.self.slots p.new.trail.entries c.in-Violated.id
    (ap (λ (x : Trailed). x.vars) p.ensures.trail ∙ c.requires.fits.same_vars) p.ensures.slots
    (subst (λ (r : Propagated). Propagates c.args.store.now.vars c.args.store.now.slots p.new.trail.entries r) c.in-Violated.is c.in_ok-found.ensures.propagates)

pub returns-in-Fixpoint-clause-followed : goal.returns-in-Fixpoint-clause-followed
returns-in-Fixpoint-clause-followed g c =
    let p = c.propagate in
    let u = g.P.Propagator.told c.tell.new.propagator in
    let n = c.args.told.now in
    let begun = told_settled (g.P.Propagator.told c.args.propagator.now) c.args.trail.now p.new.trail n c.args.store.now.slots p.ensures.trail p.ensures.extends c.requires.told in
    followed_bound g.P.Propagator.explains (g.P.Propagator.bound c.args.propagator.now) (g.P.Propagator.bound c.tell.new.propagator) u p.new.self p.new.trail c.len.result c.tell.ensures.bound
    (followed_settled (λ x. g.P.Propagator.explains x (g.P.Propagator.bound c.args.propagator.now)) (g.P.Propagator.told c.args.propagator.now) u
    c.args.store.now p.new.self c.args.trail.now p.new.trail c.args.told.now c.len.result
    p.ensures.slots p.ensures.trail p.ensures.fits
    (subst (WasTold u p.new.trail) (sym c.len.ensures.len) c.tell.ensures.told) c.tell.ensures.program p.ensures.few (omega (arith, begun.begun, c.len.ensures.len)) p.ensures.extends c.requires)

pub returns-in-Fixpoint-clause-goes : goal.returns-in-Fixpoint-clause-goes
returns-in-Fixpoint-clause-goes g c =
    let p = c.propagate in
    let t = g.P.Propagator.told c.args.propagator.now in
    let b = g.P.Propagator.bound c.args.propagator.now in
    goes_settled (g.P.Propagator.gives t.program b) t (g.P.Propagator.told c.tell.new.propagator) b (g.P.Propagator.bound c.tell.new.propagator) c.args.store.now p.new.self
    c.args.trail.now.entries p.new.trail.entries c.tell.ensures.program c.tell.ensures.bound p.ensures.slots p.ensures.extends

pub returns-in-Fixpoint-clause-fixpoint : goal.returns-in-Fixpoint-clause-fixpoint
returns-in-Fixpoint-clause-fixpoint g c =
    let p = c.propagate in
    fixpoint_settled c.args.store.now.vars p.new.trail.vars c.args.store.now.slots p.new.self.slots p.new.trail.entries
    (ap (λ (x : Trailed). x.vars) p.ensures.trail ∙ c.requires.fits.same_vars) p.ensures.slots
    (subst (λ (r : Propagated). Propagates c.args.store.now.vars c.args.store.now.slots p.new.trail.entries r) c.in-Fixpoint.is c.in_ok-found.ensures.propagates)

pub returns-in_err-found-clause-followed : goal.returns-in_err-found-clause-followed
returns-in_err-found-clause-followed g c =
    let p = c.propagate in
    let t = g.P.Propagator.told c.args.propagator.now in
    let n = c.args.told.now in
    followed_settled (λ x. g.P.Propagator.explains x (g.P.Propagator.bound c.args.propagator.now)) t t c.args.store.now p.new.self c.args.trail.now
    p.new.trail n n p.ensures.slots p.ensures.trail p.ensures.fits
    (told_settled t c.args.trail.now p.new.trail n c.args.store.now.slots p.ensures.trail p.ensures.extends c.requires.told) refl p.ensures.few (omega arith) p.ensures.extends c.requires

pub returns-in_err-found-clause-goes : goal.returns-in_err-found-clause-goes
returns-in_err-found-clause-goes g c =
    let p = c.propagate in
    let t = g.P.Propagator.told c.args.propagator.now in
    let b = g.P.Propagator.bound c.args.propagator.now in
    goes_settled (g.P.Propagator.gives t.program b) t t b b c.args.store.now p.new.self c.args.trail.now.entries p.new.trail.entries refl refl
    p.ensures.slots p.ensures.extends
