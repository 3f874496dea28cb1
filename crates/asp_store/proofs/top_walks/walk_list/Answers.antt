use Rattle.std.proofs.Common.{List, length, ap, ◌∙◌, subst, arith}
use Rattle.asp_vars.specs.Codes.{code_of}
use Rattle.asp_trail.specs.Trails.{Trailed}
use Rattle.asp_store.specs.Marks.{Watch}
use Rattle.asp_store.specs.Walking.{back, IsWalking}
use Rattle.asp_store.proofs.BackLaws.{extends_level}
use Rattle.asp_store.proofs.GrowLaws.{extends_more}
use Rattle.asp_store.proofs.top_walks.walk_list.Goals as goal

pub returns-in-Some-clause-extends : goal.returns-in-Some-clause-extends
returns-in-Some-clause-extends c = extends_more c.args.slots.now c.args.trail.now.entries c.places.trail.entries c.end_told.new.trail.entries c.places.invariant.extends c.end_told.ensures.ends.extends

pub returns-in-Some-end_last-clause-extends : goal.returns-in-Some-end_last-clause-extends
returns-in-Some-end_last-clause-extends c =
    extends_more c.args.slots.now c.args.trail.now.entries c.places.trail.entries c.end_last.new.trail.entries c.places.invariant.extends
    c.end_last.ensures.ends.extends

pub past_blocked-i-requires-in-None-clause-level : goal.past_blocked-i-requires-in-None-clause-level
past_blocked-i-requires-in-None-clause-level c = extends_level c.args.slots.now c.places.trail.entries c.end_told.new.trail.entries c.end_told.ensures.ends.extends ∙ c.places.invariant.level_is

pub past_blocked-i-requires-in-None-end_last-clause-level : goal.past_blocked-i-requires-in-None-end_last-clause-level
past_blocked-i-requires-in-None-end_last-clause-level c =
    extends_level c.args.slots.now c.places.trail.entries c.end_last.new.trail.entries c.end_last.ensures.ends.extends ∙ c.places.invariant.level_is

pub places-preserved-in-None : goal.places-preserved-in-None
places-preserved-in-None c = record {
  walking =
      subst (λ (xs : List Watch). IsWalking c.args.slots.now (back c.pass_place.new.watches (code_of c.args.front.now.lit) xs) c.end_told.new.trail c.args.front.now c.past_blocked-i-in-None.result)
      c.as_slice-in-None.ensures.value c.past_blocked-i-in-None.ensures.walking;
  within = omega (arith, c.past_blocked-i-in-None.ensures.within, ap length c.as_slice-in-None.ensures.value);
  level_is = extends_level c.args.slots.now c.places.trail.entries c.end_told.new.trail.entries c.end_told.ensures.ends.extends ∙ c.places.invariant.level_is;
  same = c.end_told.ensures.ends.same ∙ ap (λ (s : Trailed). let r : Trailed = record s { entries = c.end_told.new.trail.entries } in r) c.places.invariant.same;
  extends = extends_more c.args.slots.now c.args.trail.now.entries c.places.trail.entries c.end_told.new.trail.entries c.places.invariant.extends c.end_told.ensures.ends.extends;
}

pub places-preserved : goal.places-preserved
places-preserved c = record {
  walking =
      subst (λ (xs : List Watch). IsWalking c.args.slots.now (back c.pass_place.new.watches (code_of c.args.front.now.lit) xs) c.end_last.new.trail
      c.args.front.now c.past_blocked-i-in-None-end_last.result)
      c.as_slice-in-None-end_last.ensures.value c.past_blocked-i-in-None-end_last.ensures.walking;
  within = omega (arith, c.past_blocked-i-in-None-end_last.ensures.within, ap length c.as_slice-in-None-end_last.ensures.value);
  level_is = extends_level c.args.slots.now c.places.trail.entries c.end_last.new.trail.entries c.end_last.ensures.ends.extends ∙ c.places.invariant.level_is;
  same = c.end_last.ensures.ends.same ∙ ap (λ (s : Trailed). let r : Trailed = record s { entries = c.end_last.new.trail.entries } in r) c.places.invariant.same;
  extends = extends_more c.args.slots.now c.args.trail.now.entries c.places.trail.entries c.end_last.new.trail.entries c.places.invariant.extends c.end_last.ensures.ends.extends;
}
