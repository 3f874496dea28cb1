use Rattle.std.proofs.Common.{ℤ, List, Option, length, refl, sym, ap, ◌∙◌, subst, arith}
use Rattle.asp_trail.specs.Trails.{Trailed}
use Rattle.asp_trail.specs.Told.{Told}
use Rattle.asp_propagate.specs.Propagating.{GoesOn}
use Rattle.asp_propagate.proofs.AddLaws.{goes_then}
use Rattle.asp_propagate.proofs.PropagateLaws.{asked_same, followed_bound}
use Rattle.asp_propagate.proofs.rounds.imply_more.Goals as goal

pub imply_told-requires-clause-followed : goal.imply_told-requires-clause-followed
imply_told-requires-clause-followed g c =
    let m = c.implied in
    let b = g.P.Propagator.bound m.propagator in
    let s = c.args.store.now in
    let u : Told = g.P.Propagator.told c.more.new.self in
    followed_bound g.P.Propagator.explains b (g.P.Propagator.bound c.more.new.self) u s m.trail (length m.trail.entries) c.more.ensures.stays
    (asked_same (λ p. g.P.Propagator.explains p b) (g.P.Propagator.told m.propagator) u s s m.trail (length m.trail.entries) c.more.ensures.values refl m.invariant.followed)

pub implied-preserved : goal.implied-preserved
implied-preserved g c =
    let told = g.P.Propagator.told in
    let bound = g.P.Propagator.bound in
    let m = c.implied in
    let xs = c.args.store.now.slots in
    let es = c.args.trail.now.entries in
    let t : Told = told c.args.propagator.now in
    let b = bound c.args.propagator.now in
    let x = c.imply_told.new in
    let u : Told = told c.more.new.self in
    record {
      followed = c.imply_told.ensures.followed;
      same = c.imply_told.ensures.same ∙ ap (λ (r : Trailed). let z : Trailed = record r { entries = x.trail.entries } in z) m.invariant.same;
      more = omega (arith, m.invariant.more, c.imply_told.ensures.more);
      goes =
          goes_then g.P.Propagator.gives t u (told x.propagator) b (bound c.more.new.self) (bound x.propagator) xs xs xs es m.trail.entries x.trail.entries
          (subst (λ (o : Option (List ℤ)). GoesOn (g.P.Propagator.gives t.program b) t u b o xs xs es m.trail.entries) (sym c.more.ensures.stays)
          (subst (λ (v : Told). GoesOn (g.P.Propagator.gives t.program b) t v b (bound m.propagator) xs xs es m.trail.entries) (sym c.more.ensures.values) m.invariant.goes))
          c.imply_told.ensures.goes;
    }

pub returns-clause-followed : goal.returns-clause-followed
returns-clause-followed g c =
    let m = c.implied in
    let b = g.P.Propagator.bound m.propagator in
    let s = c.args.store.now in
    let u : Told = g.P.Propagator.told c.more.new.self in
    followed_bound g.P.Propagator.explains b (g.P.Propagator.bound c.more.new.self) u s m.trail (length m.trail.entries) c.more.ensures.stays
    (asked_same (λ p. g.P.Propagator.explains p b) (g.P.Propagator.told m.propagator) u s s m.trail (length m.trail.entries) c.more.ensures.values refl m.invariant.followed)
