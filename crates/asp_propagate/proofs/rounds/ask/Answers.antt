use Rattle.std.proofs.Common.{ℕ, ℤ, List, Option, length, refl, sym, ap, ◌∙◌, subst, inr, arith}
use Rattle.std.specs.Prelude.{IfSome}
use Rattle.asp_vars.specs.Numbering.{var_count}
use Rattle.asp_trail.specs.declared.said.Said.{Said}
use Rattle.asp_trail.specs.Trails.{Trailed}
use Rattle.asp_trail.specs.Told.{Told}
use Rattle.asp_store.specs.declared.stored_nogood.Kind.TheVariants as kind
use Rattle.asp_propagate.specs.Propagating.{IsFollowed, GoesOn}
use Rattle.asp_propagate.specs.Saying.{IsToSay, IsFollowing}
use Rattle.asp_propagate.proofs.AddLaws.{goes_then}
use Rattle.asp_propagate.proofs.PropagateLaws.{asked_more, asked_same, followed_bound}
use Rattle.asp_propagate.proofs.rounds.ask.Goals as goal

pub returns-in_err-next-clause-followed : goal.returns-in_err-next-clause-followed
returns-in_err-next-clause-followed g c =
    let b = g.P.Propagator.bound c.args.propagator.now in
    followed_bound g.P.Propagator.explains b (g.P.Propagator.bound c.next.new.self) (g.P.Propagator.told c.next.new.self) c.args.store.now c.args.trail.now c.args.told.now c.next.ensures.stays
    (asked_same (λ p. g.P.Propagator.explains p b) (g.P.Propagator.told c.args.propagator.now) (g.P.Propagator.told c.next.new.self) c.args.store.now
    c.args.store.now c.args.trail.now c.args.told.now c.next.ensures.values refl c.requires.followed)

pub returns-in-None-clause-followed : goal.returns-in-None-clause-followed
returns-in-None-clause-followed g c =
    let b = g.P.Propagator.bound c.args.propagator.now in
    followed_bound g.P.Propagator.explains b (g.P.Propagator.bound c.next.new.self) (g.P.Propagator.told c.next.new.self) c.args.store.now c.args.trail.now c.args.told.now c.next.ensures.stays
    (asked_same (λ p. g.P.Propagator.explains p b) (g.P.Propagator.told c.args.propagator.now) (g.P.Propagator.told c.next.new.self) c.args.store.now
    c.args.store.now c.args.trail.now c.args.told.now c.next.ensures.values refl c.requires.followed)

pub returns-in_err-_id-in-Some-Nogood-clause-followed : goal.returns-in_err-_id-in-Some-Nogood-clause-followed
returns-in_err-_id-in-Some-Nogood-clause-followed g c =
    let b = g.P.Propagator.bound c.args.propagator.now in
    followed_bound g.P.Propagator.explains b (g.P.Propagator.bound c.next.new.self) (g.P.Propagator.told c.next.new.self) c.add.new.self c.args.trail.now c.args.told.now c.next.ensures.stays
    (asked_same (λ p. g.P.Propagator.explains p b) (g.P.Propagator.told c.args.propagator.now) (g.P.Propagator.told c.next.new.self) c.args.store.now
    c.add.new.self c.args.trail.now c.args.told.now c.next.ensures.values c.in_err-_id-in-Some-Nogood.ensures.err c.requires.followed)

pub returns-in_ok-_id-in-Some-Nogood-clause-followed :
    goal.returns-in_ok-_id-in-Some-Nogood-clause-followed
returns-in_ok-_id-in-Some-Nogood-clause-followed g c =
    let b = g.P.Propagator.bound c.args.propagator.now in
    followed_bound g.P.Propagator.explains b (g.P.Propagator.bound c.next.new.self) (g.P.Propagator.told c.next.new.self) c.add.new.self c.args.trail.now c.args.told.now c.next.ensures.stays
    (asked_more (λ p. g.P.Propagator.explains p b) (g.P.Propagator.told c.args.propagator.now) (g.P.Propagator.told c.next.new.self) c.args.store.now c.add.new.self c.args.trail.now c.args.told.now
    c.in_ok-_id-in-Some-Nogood._id c.in-Some-Nogood.nogood kind.Given c.next.ensures.values c.in_ok-_id-in-Some-Nogood.ensures.ok c.requires.followed)

-- ---- a literal follows
pub imply_told-requires-clause-followed : goal.imply_told-requires-clause-followed
imply_told-requires-clause-followed g c =
    let b = g.P.Propagator.bound c.args.propagator.now in
    let s = c.args.store.now in
    let r : Trailed = c.args.trail.now in
    let t : Told = g.P.Propagator.told c.args.propagator.now in
    let u : Told = g.P.Propagator.told c.next.new.self in
    followed_bound g.P.Propagator.explains b (g.P.Propagator.bound c.next.new.self) u s r (length r.entries) c.next.ensures.stays
    (asked_same (λ p. g.P.Propagator.explains p b) t u s s r (length r.entries) c.next.ensures.values refl
    (subst (λ (n : ℕ). IsFollowed (λ p. g.P.Propagator.explains p b) t s r n) c.requires.all c.requires.followed))

pub imply_told-requires-clause-follows : goal.imply_told-requires-clause-follows
imply_told-requires-clause-follows g c =
    let t : Told = g.P.Propagator.told c.args.propagator.now in
    let b = g.P.Propagator.bound c.args.propagator.now in
    let es = c.args.trail.now.entries in
    let i = c.in-Some-Implied.implied in
    let said : IsFollowing (g.P.Propagator.explains t.program b) (var_count t.program) es i.lit i.name =
    subst (IsToSay (g.P.Propagator.gives t.program b) (g.P.Propagator.explains t.program b) (var_count t.program) es) c.in-Some-Implied.field-0-is
    (subst (λ (o : Option Said). IfSome o (IsToSay (g.P.Propagator.gives t.program b) (g.P.Propagator.explains t.program b) (var_count t.program) es))
    c.in-Some-Implied.is c.in_ok-next.ensures.said) in
    subst (λ (o : Option (List ℤ)). IsFollowing (g.P.Propagator.explains (g.P.Propagator.told c.next.new.self).program o)
    (var_count (g.P.Propagator.told c.next.new.self).program) es i.lit i.name) (sym c.next.ensures.stays)
    (subst (λ (v : Told). IsFollowing (g.P.Propagator.explains v.program b) (var_count v.program) es i.lit i.name) (sym c.next.ensures.values) said)

pub returns-in-Some-Implied-clause-followed : goal.returns-in-Some-Implied-clause-followed
returns-in-Some-Implied-clause-followed g c =
    let x = c.imply_more.new in
    subst (λ (n : ℕ). IsFollowed (λ p. g.P.Propagator.explains p (g.P.Propagator.bound x.propagator)) (g.P.Propagator.told x.propagator)
    c.args.store.now x.trail n) (sym c.len.ensures.len) c.imply_more.ensures.followed

pub returns-in-Some-Implied-clause-same : goal.returns-in-Some-Implied-clause-same
returns-in-Some-Implied-clause-same g c =
    let es = c.imply_more.new.trail.entries in
    c.imply_more.ensures.same ∙ ap (λ (r : Trailed). let z : Trailed = record r { entries = es } in z) c.imply_told.ensures.same

pub returns-in-Some-Implied-clause-ok : goal.returns-in-Some-Implied-clause-ok
returns-in-Some-Implied-clause-ok g c = inr (omega (arith, c.imply_told.ensures.more, c.imply_more.ensures.more))

pub returns-in-Some-Implied-clause-goes : goal.returns-in-Some-Implied-clause-goes
returns-in-Some-Implied-clause-goes g c =
    let told = g.P.Propagator.told in
    let bound = g.P.Propagator.bound in
    let gives = g.P.Propagator.gives in
    let x = c.imply_told.new in
    let y = c.imply_more.new in
    let u : Told = told c.next.new.self in
    let xs = c.args.store.now.slots in
    let es = c.args.trail.now.entries in
    let both =
    goes_then gives u (told x.propagator) (told y.propagator) (bound c.next.new.self) (bound x.propagator) (bound y.propagator) xs xs xs es
    x.trail.entries y.trail.entries c.imply_told.ensures.goes c.imply_more.ensures.goes in
    subst (λ (v : Told). GoesOn (gives v.program (bound c.args.propagator.now)) v (told y.propagator) (bound c.args.propagator.now) (bound y.propagator) xs xs es y.trail.entries) c.next.ensures.values
    (subst (λ (o : Option (List ℤ)). GoesOn (gives u.program o) u (told y.propagator) o (bound y.propagator) xs xs es y.trail.entries) c.next.ensures.stays both)
