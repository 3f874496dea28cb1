use Rattle.std.proofs.Common.{◌≡◌, ℕ, ◌+◌, Option, sym, ap, ◌∙◌, subst, arith}
use Rattle.std.specs.Option.{IfNone, IfSome}
use Rattle.asp_trail.specs.Trails.{Trailed}
use Rattle.asp_store.specs.Sounding.{AreSettled}
use Rattle.asp_store.specs.Walking.{IsViolated}
use Rattle.asp_store.proofs.GrowLaws.{extends_more}
use Rattle.asp_store.proofs.FixpointLaws.{all_at_fixpoint}
use Rattle.asp_store.proofs.propagation.propagate.Goals as goal

pub returns-in_err-pending-clause-same : goal.returns-in_err-pending-clause-same
returns-in_err-pending-clause-same c = c.look_at_pending.ensures.same ∙ ap
    (λ (k : ℕ). let r : Trailed = record c.args.trail.now { entries = c.look_at_pending.new.trail.entries; seen = k } in r)
    (sym (ap (λ (s : Trailed). s.seen) c.look_at_pending.ensures.same))

pub returns-in-Some-clause-same : goal.returns-in-Some-clause-same
returns-in-Some-clause-same c = c.look_at_pending.ensures.same ∙ ap
    (λ (k : ℕ). let r : Trailed = record c.args.trail.now { entries = c.look_at_pending.new.trail.entries; seen = k } in r)
    (sym (ap (λ (s : Trailed). s.seen) c.look_at_pending.ensures.same))

pub returns-in-Some-clause-propagates : goal.returns-in-Some-clause-propagates
returns-in-Some-clause-propagates c = subst
    (λ (o : Option ℕ). IfSome o (IsViolated c.look_at_pending.new.trail.vars c.args.slots.now c.look_at_pending.new.trail.entries)) c.in-Some.is
    c.in_ok-pending.ensures.violated

pub entries-init : goal.entries-init
entries-init c = record {
  sound = c.look_at_pending.ensures.sound;
  settled = subst (λ (o : Option ℕ). IfNone o (AreSettled c.args.slots.now c.look_at_pending.new.watches.rows c.look_at_pending.new.trail.entries)) c.in-None.is c.in_ok-pending.ensures.settled;
  same = c.look_at_pending.ensures.same ∙ ap (λ (k : ℕ). let r : Trailed =
      record c.args.trail.now { entries = c.look_at_pending.new.trail.entries; seen = k } in r)
      (sym (ap (λ (s : Trailed). s.seen) c.look_at_pending.ensures.same));
  extends = c.look_at_pending.ensures.extends;
}

pub propagate_next-requires-clause-sound : goal.propagate_next-requires-clause-sound
propagate_next-requires-clause-sound c = c.entries.invariant.sound

pub propagate_next-requires-clause-settled : goal.propagate_next-requires-clause-settled
propagate_next-requires-clause-settled c = c.entries.invariant.settled

pub propagate_next-requires-clause-more : goal.propagate_next-requires-clause-more
propagate_next-requires-clause-more c = omega (arith, c.entries-test.true, c.len.ensures.len, c.seen.ensures.seen)

pub propagate_next-requires-clause-room : goal.propagate_next-requires-clause-room
propagate_next-requires-clause-room c = omega (arith, c.requires.room, ap (λ (s : Trailed). s.vars) c.entries.invariant.same, ap (λ (s : Trailed). s.room) c.entries.invariant.same)

pub returns-in_err-found-clause-same : goal.returns-in_err-found-clause-same
returns-in_err-found-clause-same c = c.propagate_next.ensures.same ∙ ap
    (λ (s : Trailed). let r : Trailed = record s { entries = c.propagate_next.new.trail.entries; seen = c.propagate_next.new.trail.seen } in r)
    c.entries.invariant.same

pub returns-in_err-found-clause-extends : goal.returns-in_err-found-clause-extends
returns-in_err-found-clause-extends c =
    extends_more c.args.slots.now c.args.trail.now.entries c.entries.trail.entries c.propagate_next.new.trail.entries c.entries.invariant.extends
    c.propagate_next.ensures.extends

pub returns-in_err-found-clause-sound : goal.returns-in_err-found-clause-sound
returns-in_err-found-clause-sound c = c.propagate_next.ensures.sound

pub returns-in-Some-found-clause-same : goal.returns-in-Some-found-clause-same
returns-in-Some-found-clause-same c = c.propagate_next.ensures.same ∙ ap
    (λ (s : Trailed). let r : Trailed = record s { entries = c.propagate_next.new.trail.entries; seen = c.propagate_next.new.trail.seen } in r)
    c.entries.invariant.same

pub returns-in-Some-found-clause-extends : goal.returns-in-Some-found-clause-extends
returns-in-Some-found-clause-extends c =
    extends_more c.args.slots.now c.args.trail.now.entries c.entries.trail.entries c.propagate_next.new.trail.entries c.entries.invariant.extends
    c.propagate_next.ensures.extends

pub returns-in-Some-found-clause-sound : goal.returns-in-Some-found-clause-sound
returns-in-Some-found-clause-sound c = c.propagate_next.ensures.sound

pub returns-in-Some-found-clause-propagates : goal.returns-in-Some-found-clause-propagates
returns-in-Some-found-clause-propagates c = subst
    (λ (o : Option ℕ). IfSome o (IsViolated c.propagate_next.new.trail.vars c.args.slots.now c.propagate_next.new.trail.entries)) c.in-Some-found.is
    c.in_ok-found.ensures.violated

pub entries-preserved : goal.entries-preserved
entries-preserved c = record {
  sound = c.propagate_next.ensures.sound;
  settled = subst (λ (o : Option ℕ). IfNone o (AreSettled c.args.slots.now c.propagate_next.new.watches.rows c.propagate_next.new.trail.entries)) c.in-None-found.is c.in_ok-found.ensures.settled;
  same = c.propagate_next.ensures.same ∙ ap (λ (s : Trailed). let r : Trailed =
      record s { entries = c.propagate_next.new.trail.entries; seen = c.propagate_next.new.trail.seen } in r) c.entries.invariant.same;
  extends = extends_more c.args.slots.now c.args.trail.now.entries c.entries.trail.entries c.propagate_next.new.trail.entries c.entries.invariant.extends c.propagate_next.ensures.extends;
}

pub entries-smaller : goal.entries-smaller
entries-smaller c =
    let s = subst (λ (o : Option ℕ). IfNone o (c.propagate_next.new.trail.seen ≡ c.entries.trail.seen + 1)) c.in-None-found.is c.in_ok-found.ensures.seen in
    omega (arith, s, c.entries-test.true, c.len.ensures.len, c.seen.ensures.seen, c.propagate_next.ensures.few, ap (λ (s : Trailed). s.vars) c.propagate_next.ensures.same)

pub returns-clause-propagates : goal.returns-clause-propagates
returns-clause-propagates c =
    all_at_fixpoint c.args.slots.now c.entries.watches c.entries.trail c.len.ensures.ordered (omega (arith, c.entries-test.false, c.len.ensures.len, c.seen.ensures.seen, c.seen.ensures.within))
    c.entries.invariant.sound c.entries.invariant.settled
