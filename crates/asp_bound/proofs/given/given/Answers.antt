use Rattle.std.proofs.Common.{◌≡◌, ℕ, ◌+◌, ◌^◌, ◌<◌, ◌≤◌, List, length, Bool, Option, Some, None, refl, sym, ◌∙◌, ℤ, ap, subst, arith}
use Rattle.std.proofs.lemmas.List.Elements.{All-weaker}
use Rattle.asp_model.specs.declared.program.Program.{Program}
use Rattle.asp_trail.specs.Entries.{assignment}
use Rattle.asp_vars.specs.Literals.{complement}
use Rattle.asp_trail.specs.declared.said.Implied.{Implied as SaidImplied}
use Rattle.asp_bound.specs.Explained.{IsExplained}
use Rattle.asp_bound.specs.Found.{Reaches}
use Rattle.asp_bound.specs.declared.priced.Priced.{Priced}
use Rattle.asp_bound.specs.Priced.{IsPriced}
use Rattle.asp_bound.specs.Needed.{needed}
use Rattle.asp_bound.specs.Reach.{reach, lifted}
use Rattle.asp_bound.proofs.KeptLaws.{sums-room, rows-small, columns-within}
use Rattle.asp_bound.proofs.NogoodLaws.{given_now_as, found-held, may_fall}
use Rattle.asp_bound.proofs.LateLaws.{raisers_have, found_now, implied_explained}
use Rattle.asp_bound.proofs.SilentLaws.{loud_now_as, loud_with_as, silent_now_as}
use Rattle.asp_bound.proofs.given.given.Goals as goal

pub reach-requires-clause-room : goal.reach-requires-clause-room
reach-requires-clause-room c = sums-room c.args.priced.now.origin.value c.args.values.now c.args.priced.now.rows c.args.priced.now.columns c.args.priced.now.vars.items c.args.sums.now c.requires.kept

pub find-requires-clause-small : goal.find-requires-clause-small
find-requires-clause-small c = rows-small c.args.priced.now.origin.value c.args.values.now c.args.priced.now.rows c.args.priced.now.columns c.args.priced.now.vars.items c.args.sums.now c.requires.kept

pub find-requires-clause-room : goal.find-requires-clause-room
find-requires-clause-room c = sums-room c.args.priced.now.origin.value c.args.values.now c.args.priced.now.rows c.args.priced.now.columns c.args.priced.now.vars.items c.args.sums.now c.requires.kept

pub find-requires-clause-within : goal.find-requires-clause-within
find-requires-clause-within c =
    columns-within c.args.priced.now.origin.value c.args.values.now c.args.priced.now.rows c.args.priced.now.columns c.args.priced.now.vars.items
    c.args.sums.now c.requires.kept

pub find-requires-clause-most : goal.find-requires-clause-most
find-requires-clause-most c = λ j lt. (c.requires.kept.columned.each j lt).small

pub find-requires-clause-falling : goal.find-requires-clause-falling
find-requires-clause-falling c = λ j lt. (c.requires.kept.columned.each j lt).falling

-- ---- the bound is reached
pub raising-requires-clause-few : goal.raising-requires-clause-few
raising-requires-clause-few c = omega (arith, c.requires.kept.few, c.requires.vars)

pub raising-requires-clause-rows : goal.raising-requires-clause-rows
raising-requires-clause-rows c = omega (arith, c.requires.kept.rowed.count, c.requires.vars)

pub raising-requires-clause-within : goal.raising-requires-clause-within
raising-requires-clause-within c =
    All-weaker (λ v. (0 < v) × (v < length c.args.values.now)) (λ v. v ≤ c.args.trail.now.vars)
    (λ v h. omega (arith, h.1, c.requires.kept.sized, c.requires.vars)) c.args.raisers.now c.requires.raisers.within

pub nogood_by-requires : goal.nogood_by-requires
nogood_by-requires c =
    let q : Priced = c.args.priced.now in
    let a : List (Option Bool) = c.args.values.now in
    let moved = found_now c.args.trail.now c.len.result a q.rows c.in-Some.depth c.args.raisers.now c.in_ok-found.found.items c.as_slice.result.now
    c.len.ensures.len c.requires.shown c.in_ok-found.ensures c.as_slice.ensures.value in
    let es = c.as_mut_slice-left.ensures.value ∙ c.in_ok-copy.ensures.items_if_clones_equal (λ x y q. q) in
    may_fall q.origin.value a q.rows q.columns q.vars.items c.as_mut_slice-left.result.now c.as_slice.result.now (subst (IsPriced q a) (sym es) c.requires.kept)
    (found-held q.origin.value a q.rows q.columns q.vars.items c.args.sums.now c.args.raisers.now c.in-Some.depth c.as_slice.result.now
    c.requires.kept (raisers_have a q.rows c.args.raisers.now c.requires.raisers) moved)

pub returns-in-Some-clause-silent : goal.returns-in-Some-clause-silent
returns-in-Some-clause-silent c =
    let reached : Some c.in-Some.depth ≡ reach (lifted (λ j. 0) c.args.sums.now) c.as_slice-limits.result.now = c.in-Some.ensures in
    loud_now_as c.args.priced.now.origin.value c.args.values.now c.args.priced.now.rows c.args.priced.now.columns c.args.priced.now.vars.items
    c.args.sums.now c.requires.kept (Some c.args.cost.now) c.args.cost.now c.args.sums.now c.as_slice-limits.result.now c.in-Some.depth refl refl
    c.as_slice-limits.ensures reached

pub returns-in-Some-clause-said : goal.returns-in-Some-clause-said
returns-in-Some-clause-said c =
    let q : Priced = c.args.priced.now in
    let a : List (Option Bool) = c.args.values.now in
    let moved = found_now c.args.trail.now c.len.result a q.rows c.in-Some.depth c.args.raisers.now c.in_ok-found.found.items c.as_slice.result.now
    c.len.ensures.len c.requires.shown c.in_ok-found.ensures c.as_slice.ensures.value in
    let left = c.as_mut_slice-left.result.now in
    let found = c.as_slice.result.now in
    let reached : Some c.in-Some.depth ≡ reach (lifted (λ j. 0) c.args.sums.now) c.as_slice-limits.result.now = c.in-Some.ensures in
    let same = c.as_mut_slice-left.ensures.value ∙ c.in_ok-copy.ensures.items_if_clones_equal (λ x y q. q) in (
      c.args.cost.now,
      refl,
      given_now_as q.origin.value a q.rows q.columns q.vars.items c.args.sums.now c.requires.kept c.args.raisers.now
          (raisers_have a q.rows c.args.raisers.now c.requires.raisers) c.args.cost.now c.args.sums.now c.as_slice-limits.result.now c.in-Some.depth
          c.in_ok-nogood.nogood
          (needed q.rows c.args.cost.now c.in-Some.depth left found) found left
          refl c.as_slice-limits.ensures reached moved same
          (ap (λ (l : List ℤ). needed q.rows l c.in-Some.depth left found) (sym c.as_slice-limits.ensures)) c.in_ok-nogood.ensures,
    )

-- ---- a literal follows, or none does
pub returns-in_default-find-clause-silent : goal.returns-in_default-find-clause-silent
returns-in_default-find-clause-silent c =
    let none : None ≡ reach (lifted (λ j. 0) c.args.sums.now) c.as_slice-limits.result.now = c.in_default.ensures in
    silent_now_as c.args.priced.now.origin.value c.args.values.now c.args.priced.now.rows c.args.priced.now.columns c.args.priced.now.vars.items
    c.args.sums.now c.requires.kept (Some c.args.cost.now) c.args.cost.now c.args.sums.now c.as_slice-limits.result.now refl refl
    c.as_slice-limits.ensures none c.in_default-find.ensures.pass

pub returns-clause-silent : goal.returns-clause-silent
returns-clause-silent c =
    loud_with_as c.args.priced.now.origin.value c.args.values.now c.args.priced.now.rows c.args.priced.now.columns c.args.priced.now.vars.items
    c.args.sums.now c.requires.kept (Some c.args.cost.now) c.args.cost.now c.args.sums.now c.as_slice-limits.result.now c.in-Some-find.implied
    refl refl c.as_slice-limits.ensures
    c.in-Some-find.ensures.reaches c.in-Some-find.ensures.within

pub returns-clause-said : goal.returns-clause-said
returns-clause-said c =
    let p : Program = c.args.priced.now.origin.value in
    let x = c.in-Some-find.implied in
    let shown = c.requires.shown ∙ ap (λ (n : ℕ). assignment n c.args.trail.now.entries) c.requires.vars in
    let reaches = subst (λ (l : List ℤ). Reaches c.args.values.now c.args.priced.now.rows c.args.sums.now l x) c.as_slice-limits.ensures c.in-Some-find.ensures.reaches in
    let explained =
    implied_explained p c.args.values.now c.args.priced.now.rows c.args.priced.now.columns c.args.priced.now.vars.items c.args.sums.now
    c.requires.kept c.args.trail.now.entries c.args.cost.now x (complement x.lit) shown reaches c.in-Some-find.ensures.within refl in
    subst (λ (i : SaidImplied). IsExplained p (Some c.args.cost.now) c.args.trail.now.entries i.lit × (i.name + 1 ≡ 2 ^ 31)) (sym c.follows.ensures) (explained, refl)
