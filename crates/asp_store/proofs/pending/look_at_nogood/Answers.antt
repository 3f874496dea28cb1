use Rattle.std.proofs.Common.{List, length, sym, subst, arith}
use Rattle.asp_vars.specs.Literals.{Literal}
use Rattle.asp_trail.specs.Trails.{Trailed}
use Rattle.asp_store.specs.declared.looks.Look.{Look}
use Rattle.asp_store.specs.Fitting.{HasFalse, IsWatched}
use Rattle.asp_store.specs.Looking.{Grew, Found}
use Rattle.asp_store.specs.Pending.{IsWaiting}
use Rattle.asp_store.proofs.GrowLaws.{extends_grew, grew_by, trail_more}
use Rattle.asp_store.proofs.StepLaws.{visit_small}
use Rattle.asp_store.proofs.PendingLaws.{waiting_grow, for_each, found_violated, looks_pending}
use Rattle.asp_store.proofs.pending.look_at_nogood.Goals as goal

pub look_at-found-requires-clause-small : goal.look_at-found-requires-clause-small
look_at-found-requires-clause-small c =
    visit_small c.args.slots.now c.args.watches.now c.args.trail.now c.args.id c.requires.kept.0 c.args.lits.now c.requires.waiting.looking.sound
    c.requires.kept.1 c.requires.kept.2

pub attach-requires-clause-waiting : goal.attach-requires-clause-waiting
attach-requires-clause-waiting c =
    let t = c.args.trail.now in
    let u = c.look_at-found.new.trail in
    let g = grew_by c.args.id c.args.lits.now t.entries u.entries c.look_at-found.ensures.grew in
    subst (λ (x : Trailed). IsWaiting c.args.slots.now c.args.watches.now x c.args.i c.args.id) (sym (trail_more t u g.0 c.look_at-found.ensures.same g.1))
    (waiting_grow c.args.slots.now c.args.watches.now t c.args.i c.args.id g.0 (omega (arith, c.len-len.ensures.len, c.len-len.ensures.seen)) c.requires.waiting)

pub attach-requires-clause-watched : goal.attach-requires-clause-watched
attach-requires-clause-watched c = for_each c.args.slots.now c.args.id c.requires.kept.0 c.args.lits.now
    (λ xs. IsWatched xs c.in-Watched.pair c.look_at-found.new.trail.entries (length c.look_at-found.new.trail.entries)) c.requires.kept.1
    c.requires.kept.2 (subst (λ (l : Look). Found c.args.trail.now.vars c.args.lits.now c.args.trail.now.entries c.look_at-found.new.trail.entries l)
    c.in-Watched.is c.look_at-found.ensures.found)

pub attach-requires-clause-kept : goal.attach-requires-clause-kept
attach-requires-clause-kept c = c.requires.kept

pub retire-step-requires-clause-waiting : goal.retire-step-requires-clause-waiting
retire-step-requires-clause-waiting c =
    let t = c.args.trail.now in
    let u = c.look_at-found.new.trail in
    let g = grew_by c.args.id c.args.lits.now t.entries u.entries c.look_at-found.ensures.grew in
    subst (λ (x : Trailed). IsWaiting c.args.slots.now c.args.watches.now x c.args.i c.args.id) (sym (trail_more t u g.0 c.look_at-found.ensures.same g.1))
    (waiting_grow c.args.slots.now c.args.watches.now t c.args.i c.args.id g.0 (omega (arith, c.len-len.ensures.len, c.len-len.ensures.seen)) c.requires.waiting)

pub retire-step-requires-clause-is_false : goal.retire-step-requires-clause-is_false
retire-step-requires-clause-is_false c =
    for_each c.args.slots.now c.args.id c.requires.kept.0 c.args.lits.now (λ xs. HasFalse c.look_at-found.new.trail.entries xs 0) c.requires.kept.1
    c.requires.kept.2 (subst (λ (l : Look). Found c.args.trail.now.vars c.args.lits.now c.args.trail.now.entries c.look_at-found.new.trail.entries l)
    c.in-Retired.is c.look_at-found.ensures.found)

pub returns-in-Violated-clause-sound : goal.returns-in-Violated-clause-sound
returns-in-Violated-clause-sound c = (let t = c.args.trail.now in
    let u = c.look_at-found.new.trail in
    let g = grew_by c.args.id c.args.lits.now t.entries u.entries c.look_at-found.ensures.grew in
    subst (λ (x : Trailed). IsWaiting c.args.slots.now c.args.watches.now x c.args.i c.args.id) (sym (trail_more t u g.0 c.look_at-found.ensures.same g.1))
    (waiting_grow c.args.slots.now c.args.watches.now t c.args.i c.args.id g.0 (omega (arith, c.len-len.ensures.len, c.len-len.ensures.seen)) c.requires.waiting)).looking.sound

pub returns-in-Violated-clause-looks : goal.returns-in-Violated-clause-looks
returns-in-Violated-clause-looks c =
    let f = (subst (λ (l : Look). Found c.args.trail.now.vars c.args.lits.now c.args.trail.now.entries c.look_at-found.new.trail.entries l) c.in-Violated.is c.look_at-found.ensures.found) in
    found_violated c.args.slots.now c.args.trail.now c.look_at-found.new.trail c.args.id c.requires.kept.0 c.args.lits.now c.look_at-found.ensures.same f.0 c.requires.kept.1 c.requires.kept.2 f.1

pub returns-in-Pending-clause-sound : goal.returns-in-Pending-clause-sound
returns-in-Pending-clause-sound c = (let t = c.args.trail.now in
    let u = c.look_at-found.new.trail in
    let g = grew_by c.args.id c.args.lits.now t.entries u.entries c.look_at-found.ensures.grew in
    subst (λ (x : Trailed). IsWaiting c.args.slots.now c.args.watches.now x c.args.i c.args.id) (sym (trail_more t u g.0 c.look_at-found.ensures.same g.1))
    (waiting_grow c.args.slots.now c.args.watches.now t c.args.i c.args.id g.0 (omega (arith, c.len-len.ensures.len, c.len-len.ensures.seen)) c.requires.waiting)).looking.sound

pub returns-in-Pending-clause-looks : goal.returns-in-Pending-clause-looks
returns-in-Pending-clause-looks c =
    let f = (subst (λ (l : Look). Found c.args.trail.now.vars c.args.lits.now c.args.trail.now.entries c.look_at-found.new.trail.entries l) c.in-Pending.is c.look_at-found.ensures.found) in
    looks_pending c.args.slots.now c.args.watches.now c.look_at-found.new.trail c.args.i c.args.id f.0
    (for_each c.args.slots.now c.args.id c.requires.kept.0 c.args.lits.now (λ xs. HasFalse c.look_at-found.new.trail.entries xs f.0)
    c.requires.kept.1 c.requires.kept.2 f.1)
    (let t = c.args.trail.now in
    let u = c.look_at-found.new.trail in
    let g = grew_by c.args.id c.args.lits.now t.entries u.entries c.look_at-found.ensures.grew in
    subst (λ (x : Trailed). IsWaiting c.args.slots.now c.args.watches.now x c.args.i c.args.id) (sym (trail_more t u g.0 c.look_at-found.ensures.same g.1))
    (waiting_grow c.args.slots.now c.args.watches.now t c.args.i c.args.id g.0 (omega (arith, c.len-len.ensures.len, c.len-len.ensures.seen)) c.requires.waiting))

pub returns-in-Retired-clause-sound : goal.returns-in-Retired-clause-sound
returns-in-Retired-clause-sound c = c.retire-step.ensures.sound

pub returns-in-Retired-clause-looks : goal.returns-in-Retired-clause-looks
returns-in-Retired-clause-looks c = c.retire-step.ensures.looks

pub returns-in_err-attach-in-Watched-clause-sound : goal.returns-in_err-attach-in-Watched-clause-sound
returns-in_err-attach-in-Watched-clause-sound c = c.attach.ensures.sound

pub returns-in_ok-attach-in-Watched-clause-sound : goal.returns-in_ok-attach-in-Watched-clause-sound
returns-in_ok-attach-in-Watched-clause-sound c = c.attach.ensures.sound

pub returns-in_ok-attach-in-Watched-clause-looks : goal.returns-in_ok-attach-in-Watched-clause-looks
returns-in_ok-attach-in-Watched-clause-looks c = c.in_ok-attach-in-Watched.ensures.looks

pub returns-in-Violated-clause-same : goal.returns-in-Violated-clause-same
returns-in-Violated-clause-same c = c.look_at-found.ensures.same

pub returns-in-Violated-clause-extends : goal.returns-in-Violated-clause-extends
returns-in-Violated-clause-extends c =
    extends_grew c.args.slots.now c.args.id c.requires.kept.0 c.args.trail.now.entries c.look_at-found.new.trail.entries c.requires.kept.1
    (subst (λ (xs : List Literal). Grew c.args.id xs c.args.trail.now.entries c.look_at-found.new.trail.entries) (sym c.requires.kept.2) c.look_at-found.ensures.grew)

pub returns-in-Pending-clause-same : goal.returns-in-Pending-clause-same
returns-in-Pending-clause-same c = c.look_at-found.ensures.same

pub returns-in-Pending-clause-extends : goal.returns-in-Pending-clause-extends
returns-in-Pending-clause-extends c =
    extends_grew c.args.slots.now c.args.id c.requires.kept.0 c.args.trail.now.entries c.look_at-found.new.trail.entries c.requires.kept.1
    (subst (λ (xs : List Literal). Grew c.args.id xs c.args.trail.now.entries c.look_at-found.new.trail.entries) (sym c.requires.kept.2) c.look_at-found.ensures.grew)

pub returns-in-Retired-clause-same : goal.returns-in-Retired-clause-same
returns-in-Retired-clause-same c = c.look_at-found.ensures.same

pub returns-in-Retired-clause-extends : goal.returns-in-Retired-clause-extends
returns-in-Retired-clause-extends c =
    extends_grew c.args.slots.now c.args.id c.requires.kept.0 c.args.trail.now.entries c.look_at-found.new.trail.entries c.requires.kept.1
    (subst (λ (xs : List Literal). Grew c.args.id xs c.args.trail.now.entries c.look_at-found.new.trail.entries) (sym c.requires.kept.2) c.look_at-found.ensures.grew)

pub returns-in_err-attach-in-Watched-clause-same : goal.returns-in_err-attach-in-Watched-clause-same
returns-in_err-attach-in-Watched-clause-same c = c.look_at-found.ensures.same

pub returns-in_err-attach-in-Watched-clause-extends : goal.returns-in_err-attach-in-Watched-clause-extends
returns-in_err-attach-in-Watched-clause-extends c =
    extends_grew c.args.slots.now c.args.id c.requires.kept.0 c.args.trail.now.entries c.look_at-found.new.trail.entries c.requires.kept.1
    (subst (λ (xs : List Literal). Grew c.args.id xs c.args.trail.now.entries c.look_at-found.new.trail.entries) (sym c.requires.kept.2) c.look_at-found.ensures.grew)

pub returns-in_ok-attach-in-Watched-clause-same : goal.returns-in_ok-attach-in-Watched-clause-same
returns-in_ok-attach-in-Watched-clause-same c = c.look_at-found.ensures.same

pub returns-in_ok-attach-in-Watched-clause-extends : goal.returns-in_ok-attach-in-Watched-clause-extends
returns-in_ok-attach-in-Watched-clause-extends c =
    extends_grew c.args.slots.now c.args.id c.requires.kept.0 c.args.trail.now.entries c.look_at-found.new.trail.entries c.requires.kept.1
    (subst (λ (xs : List Literal). Grew c.args.id xs c.args.trail.now.entries c.look_at-found.new.trail.entries) (sym c.requires.kept.2) c.look_at-found.ensures.grew)
