use Rattle.std.proofs.Common.{refl, sym}
use Rattle.asp_store.specs.Walking.{IsVisit}
use Rattle.asp_store.proofs.GrowLaws.{extends_none}
use Rattle.asp_store.proofs.StepLaws.{visit_var}
use Rattle.asp_store.proofs.visits.visit_place.Goals as goal

pub watch-watch-requires : goal.watch-watch-requires
watch-watch-requires c = c.requires.within

pub leave-requires-clause-walking : goal.leave-requires-clause-walking
leave-requires-clause-walking c = c.requires.walking

pub leave-requires-clause-at : goal.leave-requires-clause-at
leave-requires-clause-at c = (c.watch-watch.result, c.watch-watch.ensures, sym c.id-id.ensures)

pub leave-requires-clause-gone : goal.leave-requires-clause-gone
leave-requires-clause-gone c = λ n p h g o. c.in-None.ensures.none p g o

pub is_false_by-is_blocked-requires : goal.is_false_by-is_blocked-requires
is_false_by-is_blocked-requires c =
    let v : IsVisit c.args.slots.now c.args.watches.now c.args.trail.now c.args.front.now c.args.i c.id-id.result c.in-Some.other = record {
      walking = c.requires.walking;
      watch = c.watch-watch.result;
      at = c.watch-watch.ensures;
      id_is = sym c.id-id.ensures;
      pair = c.in-Some.ensures.some.0;
      pair_is = c.in-Some.ensures.some.1;
      beside = c.in-Some.ensures.some.2;
    } in
    visit_var c.args.slots.now c.args.watches.now c.args.trail.now c.args.front.now c.args.i c.id-id.result c.in-Some.other v

pub block-requires-clause-visit : goal.block-requires-clause-visit
block-requires-clause-visit c =
    let v : IsVisit c.args.slots.now c.args.watches.now c.args.trail.now c.args.front.now c.args.i c.id-id.result c.in-Some.other = record {
      walking = c.requires.walking;
      watch = c.watch-watch.result;
      at = c.watch-watch.ensures;
      id_is = sym c.id-id.ensures;
      pair = c.in-Some.ensures.some.0;
      pair_is = c.in-Some.ensures.some.1;
      beside = c.in-Some.ensures.some.2;
    } in
    v

pub block-requires-clause-is_false : goal.block-requires-clause-is_false
block-requires-clause-is_false c = c.is_false_by-is_blocked.ensures c.if-is_blocked.true

pub returns-then-is_blocked-clause-same : goal.returns-then-is_blocked-clause-same
returns-then-is_blocked-clause-same c = refl

pub returns-then-is_blocked-clause-extends : goal.returns-then-is_blocked-clause-extends
returns-then-is_blocked-clause-extends c = extends_none c.args.slots.now c.args.trail.now.entries

pub returns-then-is_blocked-clause-sound : goal.returns-then-is_blocked-clause-sound
returns-then-is_blocked-clause-sound c = c.block.ensures.0.sound

pub returns-then-is_blocked-clause-steps : goal.returns-then-is_blocked-clause-steps
returns-then-is_blocked-clause-steps c = c.block.ensures

pub visit_long-requires-clause-visit : goal.visit_long-requires-clause-visit
visit_long-requires-clause-visit c =
    let v : IsVisit c.args.slots.now c.args.watches.now c.args.trail.now c.args.front.now c.args.i c.id-id.result c.in-Some.other = record {
      walking = c.requires.walking;
      watch = c.watch-watch.result;
      at = c.watch-watch.ensures;
      id_is = sym c.id-id.ensures;
      pair = c.in-Some.ensures.some.0;
      pair_is = c.in-Some.ensures.some.1;
      beside = c.in-Some.ensures.some.2;
    } in
    v

pub visit_long-requires-clause-room : goal.visit_long-requires-clause-room
visit_long-requires-clause-room c = c.requires.room

pub returns-in-None-clause-same : goal.returns-in-None-clause-same
returns-in-None-clause-same c = refl

pub returns-in-None-clause-extends : goal.returns-in-None-clause-extends
returns-in-None-clause-extends c = extends_none c.args.slots.now c.args.trail.now.entries

pub returns-in-None-clause-sound : goal.returns-in-None-clause-sound
returns-in-None-clause-sound c = c.leave.ensures.0.sound

pub returns-in-None-clause-steps : goal.returns-in-None-clause-steps
returns-in-None-clause-steps c = c.leave.ensures

pub returns-else-is_blocked-clause-same : goal.returns-else-is_blocked-clause-same
returns-else-is_blocked-clause-same c = c.visit_long.ensures.same

pub returns-else-is_blocked-clause-extends : goal.returns-else-is_blocked-clause-extends
returns-else-is_blocked-clause-extends c = c.visit_long.ensures.extends

pub returns-else-is_blocked-clause-sound : goal.returns-else-is_blocked-clause-sound
returns-else-is_blocked-clause-sound c = c.visit_long.ensures.sound

pub returns-else-is_blocked-clause-steps : goal.returns-else-is_blocked-clause-steps
returns-else-is_blocked-clause-steps c = c.visit_long.ensures.steps
