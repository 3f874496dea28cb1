use Rattle.std.proofs.Common.{ℕ, ◌+◌, Option, length, sym, ap, ◌∙◌, subst, arith}
use Rattle.std.proofs.lemmas.List.{length-append}
use Rattle.asp_trail.specs.declared.trail.Entry.{Entry}
use Rattle.asp_trail.specs.Trails.{Trailed}
use Rattle.asp_store.specs.Fitting.{Extends}
use Rattle.asp_store.specs.Sounding.{IsSound, AreSettled}
use Rattle.asp_store.specs.Walking.{Walked}
use Rattle.asp_store.proofs.FixpointLaws.{walk_begins, walk_ends, marked_same}
use Rattle.asp_store.proofs.propagation.propagate_next.Goals as goal

pub walk-requires-clause-walking : goal.walk-requires-clause-walking
walk-requires-clause-walking c = walk_begins c.args.slots.now c.args.watches.now c.args.trail.now c.front_of-front.result c.requires.sound c.requires.settled c.front_of-front.ensures

pub walk-requires-clause-room : goal.walk-requires-clause-room
walk-requires-clause-room c = c.requires.room

pub returns-in_err-found-clause-same : goal.returns-in_err-found-clause-same
returns-in_err-found-clause-same c = c.walk.ensures.same ∙ ap
    (λ (k : ℕ). let r : Trailed = record c.args.trail.now { entries = c.walk.new.trail.entries; seen = k } in r)
    (sym (ap (λ (s : Trailed). s.seen) c.walk.ensures.same))

pub returns-in_err-found-clause-few : goal.returns-in_err-found-clause-few
returns-in_err-found-clause-few c = c.level-level.ensures.few

pub returns-in_err-found-clause-extends : goal.returns-in_err-found-clause-extends
returns-in_err-found-clause-extends c = c.walk.ensures.extends

pub returns-in_err-found-clause-sound : goal.returns-in_err-found-clause-sound
returns-in_err-found-clause-sound c = c.walk.ensures.sound

pub returns-in-Some-clause-same : goal.returns-in-Some-clause-same
returns-in-Some-clause-same c = c.walk.ensures.same ∙ ap (λ (k : ℕ). let r : Trailed =
    record c.args.trail.now { entries = c.walk.new.trail.entries; seen = k } in r) (sym (ap (λ (s : Trailed). s.seen) c.walk.ensures.same))

pub returns-in-Some-clause-few : goal.returns-in-Some-clause-few
returns-in-Some-clause-few c = c.level-level.ensures.few

pub returns-in-Some-clause-extends : goal.returns-in-Some-clause-extends
returns-in-Some-clause-extends c = c.walk.ensures.extends

pub returns-in-Some-clause-sound : goal.returns-in-Some-clause-sound
returns-in-Some-clause-sound c = c.walk.ensures.sound

pub returns-in-Some-clause-violated : goal.returns-in-Some-clause-violated
returns-in-Some-clause-violated c = subst (λ (o : Option ℕ). Walked c.args.slots.now c.walk.new.watches c.walk.new.trail c.front_of-front.result o) c.in-Some.is c.in_ok-found.ensures.walked

pub mark_seen-requires : goal.mark_seen-requires
mark_seen-requires c = omega (arith, c.requires.more, c.seen-seen.ensures.seen, ap (length {A = Entry}) c.walk.ensures.extends.1, length-append c.args.trail.now.entries c.walk.ensures.extends.0)

pub returns-in-None-clause-same : goal.returns-in-None-clause-same
returns-in-None-clause-same c =
    marked_same c.args.trail.now c.walk.new.trail c.mark_seen.new.self (c.seen-seen.result + 1) c.walk.ensures.same c.mark_seen.ensures

pub returns-in-None-clause-few : goal.returns-in-None-clause-few
returns-in-None-clause-few c = c.level-level.ensures.few

pub returns-in-None-clause-extends : goal.returns-in-None-clause-extends
returns-in-None-clause-extends c = subst (λ (u : Trailed). Extends c.args.slots.now c.args.trail.now.entries u.entries)
    (sym (c.mark_seen.ensures ∙ ap (λ (k : ℕ). let r : Trailed = record c.walk.new.trail { seen = k + 1 } in r)
    (c.seen-seen.ensures.seen ∙ sym (ap (λ (s : Trailed). s.seen) c.walk.ensures.same)))) c.walk.ensures.extends

pub returns-in-None-clause-sound : goal.returns-in-None-clause-sound
returns-in-None-clause-sound c =
    let k = subst (λ (o : Option ℕ). Walked c.args.slots.now c.walk.new.watches c.walk.new.trail c.front_of-front.result o) c.in-None.is c.in_ok-found.ensures.walked in
    subst (λ (u : Trailed). IsSound c.args.slots.now c.walk.new.watches u)
    (sym (c.mark_seen.ensures ∙ ap (λ (k : ℕ). let r : Trailed = record c.walk.new.trail { seen = k + 1 } in r)
    (c.seen-seen.ensures.seen ∙ sym (ap (λ (s : Trailed). s.seen) c.walk.ensures.same))))
    (walk_ends c.args.slots.now c.walk.new.watches c.walk.new.trail c.front_of-front.result k.0 k.1 k.2)

pub returns-in-None-clause-settled : goal.returns-in-None-clause-settled
returns-in-None-clause-settled c =
    let k = subst (λ (o : Option ℕ). Walked c.args.slots.now c.walk.new.watches c.walk.new.trail c.front_of-front.result o) c.in-None.is c.in_ok-found.ensures.walked in
    subst (λ (u : Trailed). AreSettled c.args.slots.now c.walk.new.watches.rows u.entries)
    (sym (c.mark_seen.ensures ∙ ap (λ (k : ℕ). let r : Trailed = record c.walk.new.trail { seen = k + 1 } in r)
    (c.seen-seen.ensures.seen ∙ sym (ap (λ (s : Trailed). s.seen) c.walk.ensures.same)))) k.2.settled

pub returns-in-None-clause-seen : goal.returns-in-None-clause-seen
returns-in-None-clause-seen c = ap (λ (s : Trailed). s.seen) c.mark_seen.ensures ∙ ap (λ (k : ℕ). k + 1) c.seen-seen.ensures.seen
