use Rattle.std.proofs.Common.{◌≡◌, ◌+◌, ◌≤◌, ◌^◌, ◌++◌, ◌∷◌, [], Some, length, refl, sym, ap, subst, arith}
use Rattle.std.proofs.lemmas.List.{length-append}
use Rattle.asp_trail.specs.declared.trail.Entry.{Entry}
use Rattle.asp_trail.specs.Entries.{level}
use Rattle.asp_trail.specs.Trails.{Trailed}
use Rattle.asp_trail.specs.Told.{Told}
use Rattle.asp_propagate.specs.Propagating.{IsFollowed}
use Rattle.asp_propagate.proofs.PropagateLaws.{followed_bound, followed_late, followed_told, goes_late}
use Rattle.asp_propagate.proofs.rounds.imply_told.Goals as goal

pub returns-clause-followed : goal.returns-clause-followed
returns-clause-followed g c =
    let t : Told = g.P.Propagator.told c.args.propagator.now in
    let u : Told = g.P.Propagator.told c.tell.new.propagator in
    let b = g.P.Propagator.bound c.args.propagator.now in
    let s = c.args.store.now in
    let r : Trailed = c.args.trail.now in
    let x : Trailed = c.imply_late.new.trail in
    let e : Entry = record { lit = c.args.lit; level = level r.entries; reason = Some (2 ^ 31 + c.args.name) } in
    let le : r.seen ≤ length r.entries = omega (arith, c.len-told.ensures.seen, c.len-told.ensures.len) in
    let more : length x.entries ≡ length (r.entries ++ e ∷ []) = ap (λ (y : Trailed). length y.entries) c.imply_late.ensures in
    followed_bound g.P.Propagator.explains b (g.P.Propagator.bound c.tell.new.propagator) u s x (length x.entries) c.tell.ensures.bound
    (followed_told (λ p. g.P.Propagator.explains p b) t u s x (length r.entries) (length x.entries) c.tell.ensures.program c.tell.ensures.told (omega (arith, more, length-append r.entries (e ∷ [])))
    (subst (λ (y : Trailed). IsFollowed (λ p. g.P.Propagator.explains p b) t s y (length r.entries)) (sym c.imply_late.ensures)
    (followed_late (λ p. g.P.Propagator.explains p b) t s r (length r.entries) e c.args.name le refl c.requires.follows.small (omega arith) c.requires.follows.explained c.requires.followed)))

pub returns-clause-goes : goal.returns-clause-goes
returns-clause-goes g c =
    let t : Told = g.P.Propagator.told c.args.propagator.now in
    let b = g.P.Propagator.bound c.args.propagator.now in
    goes_late (g.P.Propagator.gives t.program b) t (g.P.Propagator.told c.tell.new.propagator) b (g.P.Propagator.bound c.tell.new.propagator)
    c.args.store.now.slots c.args.trail.now.entries c.imply_late.new.trail.entries
    c.args.lit (2 ^ 31 + c.args.name) c.tell.ensures.program c.tell.ensures.bound (ap (λ (r : Trailed). r.entries) c.imply_late.ensures)
