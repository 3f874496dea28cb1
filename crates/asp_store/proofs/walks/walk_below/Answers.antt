use Rattle.std.proofs.Common.{refl, ap, ◌∙◌, subst, arith}
use Rattle.asp_trail.specs.Trails.{Trailed}
use Rattle.asp_store.specs.declared.front.Step.{Step}
use Rattle.asp_store.specs.Walking.{Steps}
use Rattle.asp_store.proofs.GrowLaws.{extends_none, extends_more}
use Rattle.asp_store.proofs.StepLaws.{code_of_list, front_var}
use Rattle.asp_store.proofs.walks.walk_below.Goals as goal

pub places-init : goal.places-init
places-init c = record { walking = c.requires.walking; same = refl; extends = extends_none c.args.slots.now c.args.trail.now.entries }

pub len-requires : goal.len-requires
len-requires c =
    let small = front_var c.args.trail.now c.args.front.now c.len-len.ensures.ordered c.requires.walking.stands in
    code_of_list c.args.slots.now c.places.watches c.places.trail c.args.front.now.lit c.places.invariant.walking.sound
    (omega (arith, small, ap (λ (s : Trailed). s.vars) c.places.invariant.same))

pub visit_place-requires-clause-walking : goal.visit_place-requires-clause-walking
visit_place-requires-clause-walking c = c.places.invariant.walking

pub visit_place-requires-clause-within : goal.visit_place-requires-clause-within
visit_place-requires-clause-within c = omega (arith, c.len.ensures, c.places-test.true)

pub visit_place-requires-clause-room : goal.visit_place-requires-clause-room
visit_place-requires-clause-room c = omega (arith, c.requires.room, ap (λ (s : Trailed). s.vars) c.places.invariant.same, ap (λ (s : Trailed). s.room) c.places.invariant.same)

pub returns-in_err-step-clause-same : goal.returns-in_err-step-clause-same
returns-in_err-step-clause-same c = c.visit_place.ensures.same ∙ ap (λ (s : Trailed). let r : Trailed = record s { entries = c.visit_place.new.trail.entries } in r) c.places.invariant.same

pub returns-in_err-step-clause-extends : goal.returns-in_err-step-clause-extends
returns-in_err-step-clause-extends c =
    extends_more c.args.slots.now c.args.trail.now.entries c.places.trail.entries c.visit_place.new.trail.entries c.places.invariant.extends
    c.visit_place.ensures.extends

pub returns-in_err-step-clause-sound : goal.returns-in_err-step-clause-sound
returns-in_err-step-clause-sound c = c.visit_place.ensures.sound

pub returns-in-Violated-clause-same : goal.returns-in-Violated-clause-same
returns-in-Violated-clause-same c = c.visit_place.ensures.same ∙ ap (λ (s : Trailed). let r : Trailed = record s { entries = c.visit_place.new.trail.entries } in r) c.places.invariant.same

pub returns-in-Violated-clause-extends : goal.returns-in-Violated-clause-extends
returns-in-Violated-clause-extends c =
    extends_more c.args.slots.now c.args.trail.now.entries c.places.trail.entries c.visit_place.new.trail.entries c.places.invariant.extends
    c.visit_place.ensures.extends

pub returns-in-Violated-clause-sound : goal.returns-in-Violated-clause-sound
returns-in-Violated-clause-sound c = c.visit_place.ensures.sound

pub returns-in-Violated-clause-walked : goal.returns-in-Violated-clause-walked
returns-in-Violated-clause-walked c = subst
    (λ (s : Step). Steps c.args.slots.now c.places.watches c.visit_place.new.watches c.visit_place.new.trail c.args.front.now c.places.i s)
    c.in-Violated.is c.in_ok-step.ensures.steps

pub returns-clause-same : goal.returns-clause-same
returns-clause-same c = c.places.invariant.same

pub returns-clause-extends : goal.returns-clause-extends
returns-clause-extends c = c.places.invariant.extends

pub returns-clause-sound : goal.returns-clause-sound
returns-clause-sound c = c.places.invariant.walking.sound

pub returns-clause-walked : goal.returns-clause-walked
returns-clause-walked c = (c.places.i, omega (arith, c.len.ensures, c.places-test.false), c.places.invariant.walking)

pub places-preserved : goal.places-preserved
places-preserved c = record {
  walking = (subst (λ (s : Step). Steps c.args.slots.now c.places.watches c.visit_place.new.watches c.visit_place.new.trail c.args.front.now c.places.i s) c.in-Goes.is c.in_ok-step.ensures.steps).0;
  same = c.visit_place.ensures.same ∙ ap (λ (s : Trailed). let r : Trailed = record s { entries = c.visit_place.new.trail.entries } in r) c.places.invariant.same;
  extends = extends_more c.args.slots.now c.args.trail.now.entries c.places.trail.entries c.visit_place.new.trail.entries c.places.invariant.extends c.visit_place.ensures.extends;
}

pub places-preserved-in-Stays : goal.places-preserved-in-Stays
places-preserved-in-Stays c = record {
  walking = (subst (λ (s : Step). Steps c.args.slots.now c.places.watches c.visit_place.new.watches c.visit_place.new.trail c.args.front.now c.places.i s) c.in-Stays.is c.in_ok-step.ensures.steps).0;
  same = c.visit_place.ensures.same ∙ ap (λ (s : Trailed). let r : Trailed = record s { entries = c.visit_place.new.trail.entries } in r) c.places.invariant.same;
  extends = extends_more c.args.slots.now c.args.trail.now.entries c.places.trail.entries c.visit_place.new.trail.entries c.places.invariant.extends c.visit_place.ensures.extends;
}

pub places-smaller : goal.places-smaller
places-smaller c = omega (
  arith,
  c.len.ensures,
  c.places-test.true,
  (subst (λ (s : Step). Steps c.args.slots.now c.places.watches c.visit_place.new.watches c.visit_place.new.trail c.args.front.now c.places.i s)
      c.in-Goes.is c.in_ok-step.ensures.steps).1,
)

pub places-smaller-in-Stays : goal.places-smaller-in-Stays
places-smaller-in-Stays c = omega (
  arith,
  c.len.ensures,
  c.places-test.true,
  (subst (λ (s : Step). Steps c.args.slots.now c.places.watches c.visit_place.new.watches c.visit_place.new.trail c.args.front.now c.places.i s)
      c.in-Stays.is c.in_ok-step.ensures.steps).1,
)
