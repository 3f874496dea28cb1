use Rattle.std.proofs.Common.{ℕ, refl, sym, ap, ◌∙◌, subst, arith}
use Rattle.asp_trail.specs.Trails.{Trailed}
use Rattle.asp_store.specs.declared.front.Step.{Step}
use Rattle.asp_store.specs.Pending.{IsLooking, Looks}
use Rattle.asp_store.proofs.GrowLaws.{extends_none, extends_more}
use Rattle.asp_store.proofs.PendingLaws.{looking_begins, looking_ends}
use Rattle.asp_store.proofs.pending.look_at_pending.Goals as goal

pub places-init : goal.places-init
places-init c = record {
  looking = subst (λ (k : ℕ). IsLooking c.args.slots.now c.args.watches.now c.args.trail.now k) (sym c.first-i.ensures)
      (looking_begins c.args.slots.now c.args.watches.now c.args.trail.now c.requires.sound);
  same = refl;
  extends = extends_none c.args.slots.now c.args.trail.now.entries;
}

pub look_at_place-requires-clause-looking : goal.look_at_place-requires-clause-looking
look_at_place-requires-clause-looking c = c.places.invariant.looking

pub look_at_place-requires-clause-within : goal.look_at_place-requires-clause-within
look_at_place-requires-clause-within c = omega (arith, c.last.ensures, c.places-test.true)

pub look_at_place-requires-clause-room : goal.look_at_place-requires-clause-room
look_at_place-requires-clause-room c = omega (arith, c.requires.room, ap (λ (s : Trailed). s.vars) c.places.invariant.same, ap (λ (s : Trailed). s.room) c.places.invariant.same)

pub returns-in_err-step-clause-same : goal.returns-in_err-step-clause-same
returns-in_err-step-clause-same c = c.look_at_place.ensures.same ∙ ap (λ (s : Trailed). let r : Trailed = record s { entries = c.look_at_place.new.trail.entries } in r) c.places.invariant.same

pub returns-in_err-step-clause-extends : goal.returns-in_err-step-clause-extends
returns-in_err-step-clause-extends c =
    extends_more c.args.slots.now c.args.trail.now.entries c.places.trail.entries c.look_at_place.new.trail.entries c.places.invariant.extends
    c.look_at_place.ensures.extends

pub returns-in_err-step-clause-sound : goal.returns-in_err-step-clause-sound
returns-in_err-step-clause-sound c = c.look_at_place.ensures.sound

pub returns-in-Violated-clause-same : goal.returns-in-Violated-clause-same
returns-in-Violated-clause-same c = c.look_at_place.ensures.same ∙ ap (λ (s : Trailed). let r : Trailed = record s { entries = c.look_at_place.new.trail.entries } in r) c.places.invariant.same

pub returns-in-Violated-clause-extends : goal.returns-in-Violated-clause-extends
returns-in-Violated-clause-extends c =
    extends_more c.args.slots.now c.args.trail.now.entries c.places.trail.entries c.look_at_place.new.trail.entries c.places.invariant.extends
    c.look_at_place.ensures.extends

pub returns-in-Violated-clause-sound : goal.returns-in-Violated-clause-sound
returns-in-Violated-clause-sound c = c.look_at_place.ensures.sound

pub returns-in-Violated-clause-violated : goal.returns-in-Violated-clause-violated
returns-in-Violated-clause-violated c = subst
    (λ (s : Step). Looks c.args.slots.now c.places.watches c.look_at_place.new.watches c.look_at_place.new.trail c.places.i s) c.in-Violated.is
    c.in_ok-step.ensures.looks

pub returns-clause-same : goal.returns-clause-same
returns-clause-same c = c.places.invariant.same

pub returns-clause-extends : goal.returns-clause-extends
returns-clause-extends c = c.places.invariant.extends

pub returns-clause-sound : goal.returns-clause-sound
returns-clause-sound c = c.places.invariant.looking.sound

pub returns-clause-settled : goal.returns-clause-settled
returns-clause-settled c = looking_ends c.args.slots.now c.places.watches c.places.trail c.places.i (omega (arith, c.last.ensures, c.places-test.false)) c.places.invariant.looking

pub places-preserved : goal.places-preserved
places-preserved c = record {
  looking = (subst (λ (s : Step). Looks c.args.slots.now c.places.watches c.look_at_place.new.watches c.look_at_place.new.trail c.places.i s) c.in-Goes.is c.in_ok-step.ensures.looks).0;
  same = c.look_at_place.ensures.same ∙ ap (λ (s : Trailed). let r : Trailed = record s { entries = c.look_at_place.new.trail.entries } in r) c.places.invariant.same;
  extends = extends_more c.args.slots.now c.args.trail.now.entries c.places.trail.entries c.look_at_place.new.trail.entries c.places.invariant.extends c.look_at_place.ensures.extends;
}

pub places-preserved-in-Stays : goal.places-preserved-in-Stays
places-preserved-in-Stays c = record {
  looking = (subst (λ (s : Step). Looks c.args.slots.now c.places.watches c.look_at_place.new.watches c.look_at_place.new.trail c.places.i s) c.in-Stays.is c.in_ok-step.ensures.looks).0;
  same = c.look_at_place.ensures.same ∙ ap (λ (s : Trailed). let r : Trailed = record s { entries = c.look_at_place.new.trail.entries } in r) c.places.invariant.same;
  extends = extends_more c.args.slots.now c.args.trail.now.entries c.places.trail.entries c.look_at_place.new.trail.entries c.places.invariant.extends c.look_at_place.ensures.extends;
}

pub places-smaller : goal.places-smaller
places-smaller c = omega (
  arith,
  c.last.ensures,
  c.places-test.true,
  (subst (λ (s : Step). Looks c.args.slots.now c.places.watches c.look_at_place.new.watches c.look_at_place.new.trail c.places.i s) c.in-Goes.is
      c.in_ok-step.ensures.looks).1,
)

pub places-smaller-in-Stays : goal.places-smaller-in-Stays
places-smaller-in-Stays c = omega (
  arith,
  c.last.ensures,
  c.places-test.true,
  (subst (λ (s : Step). Looks c.args.slots.now c.places.watches c.look_at_place.new.watches c.look_at_place.new.trail c.places.i s)
      c.in-Stays.is c.in_ok-step.ensures.looks).1,
)
