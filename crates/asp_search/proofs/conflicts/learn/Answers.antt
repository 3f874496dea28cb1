use Rattle.std.proofs.Common.{◌≡◌, ℕ, ℤ, List, Option, Some, sym, ap, ◌∙◌, subst}
use Rattle.asp_vars.specs.Literals.{Literal}
use Rattle.asp_vars.specs.Numbering.{var_count}
use Rattle.asp_vars.specs.declared.nogood.Nogood.{Nogood}
use Rattle.asp_model.specs.declared.program.Program.{Program}
use Rattle.asp_trail.specs.declared.trail.Entry.{Entry}
use Rattle.asp_trail.specs.Reasons.{AreAsked, AreReasons}
use Rattle.asp_store.specs.Keeping.{nogood_at}
use Rattle.asp_propagate.specs.Late.{CanAsk, IsSaid}
use Rattle.asp_analyze.specs.Way.{AreUpTo}
use Rattle.asp_search.proofs.LearnLaws.{has_some, up_to, contained, violated_is, violated_at, explained_at, said_at_hand}
use Rattle.asp_search.proofs.conflicts.learn.Goals as goal

pub nogood-nogood-requires : goal.nogood-nogood-requires
nogood-nogood-requires g c =
    has_some (nogood_at c.store.result.now.slots c.args.id) c.requires.violated.0
    (ap (λ xs. nogood_at xs c.args.id) c.store.ensures.slots ∙ c.requires.violated.1)

pub learn-requires-clause-vars : goal.learn-requires-clause-vars
learn-requires-clause-vars g c =
    let t = c.args.state.now in
    subst (λ (n : ℕ). AreUpTo n c.trail.result.now.entries) (sym c.requires.vars)
    (subst (λ (es : List Entry). AreUpTo (var_count t.program) es) (sym c.trail.ensures.entries) (up_to (var_count t.program) t.entries c.trail.ensures.ordered))

pub learn-requires-clause-contained : goal.learn-requires-clause-contained
learn-requires-clause-contained g c =
    let t = c.args.state.now in
    let r = c.trail.result.now in
    let s = c.store.result.now in
    let n : Nogood = record { lits = c.as_slice.result.now; base = c.nogood-nogood.result.now.base } in
    let kept : Some n ≡ nogood_at s.slots c.args.id = ap (λ (ls : List Literal). Some (record { lits = ls; base = n.base })) c.as_slice.ensures.value ∙ c.nogood-nogood.ensures in
    contained r.vars r.entries n.lits
    (violated_is r.vars s.slots r.entries c.args.id n kept
    (violated_at (var_count t.program) r.vars t.slots s.slots t.entries r.entries c.args.id c.trail.ensures.vars c.store.ensures.slots c.trail.ensures.entries c.requires.violated))

pub learn-requires-clause-asked : goal.learn-requires-clause-asked
learn-requires-clause-asked g c =
    let e = c.reasons.result.now in
    subst (AreAsked (CanAsk (g.P.Propagator.explains e.program e.bound) e.slots e.entries)) (c.reasons.ensures.entries ∙ sym c.trail.ensures.entries) c.reasons.ensures.asked

pub learn-requires-clause-reasons : goal.learn-requires-clause-reasons
learn-requires-clause-reasons g c =
    let e = c.reasons.result.now in
    subst (AreReasons (IsSaid (g.P.Propagator.late e.program e.bound) e.slots e.entries)) (c.reasons.ensures.entries ∙ sym c.trail.ensures.entries) c.reasons.ensures.said

pub returns-clause-explains : goal.returns-clause-explains
returns-clause-explains g c =
    let t = c.args.state.now in
    let r = c.trail.result.now in
    let s = c.store.result.now in
    let n : Nogood = record { lits = c.as_slice.result.now; base = c.nogood-nogood.result.now.base } in
    let kept : Some n ≡ nogood_at s.slots c.args.id = ap (λ (ls : List Literal). Some (record { lits = ls; base = n.base })) c.as_slice.ensures.value ∙ c.nogood-nogood.ensures in
    let e = c.reasons.result.now in
    let given : (n : Nogood) → g.P.Propagator.late e.program e.bound n → g.P.Propagator.gives t.program t.bound n =
    λ n w. g.met.P.Propagator.given t.program t.bound n
    (subst (λ (p : Program). g.P.Propagator.late p t.bound n) c.reasons.ensures.program
    (subst (λ (b : Option (List ℤ)). g.P.Propagator.late e.program b n) c.reasons.ensures.bound w)) in
    explained_at c.learn.result (g.P.Propagator.gives t.program t.bound) (IsSaid (g.P.Propagator.late e.program e.bound) e.slots e.entries)
    (var_count t.program) r.vars t.slots s.slots t.entries r.entries c.args.id
    n c.trail.ensures.vars c.store.ensures.slots c.trail.ensures.entries kept c.requires.violated
    (said_at_hand (g.P.Propagator.late e.program e.bound) (g.P.Propagator.gives t.program t.bound) t.slots e.slots e.entries c.reasons.ensures.slots given)
    c.learn.ensures.reached c.learn.ensures.contained c.learn.ensures.assumed c.learn.ensures.learned
