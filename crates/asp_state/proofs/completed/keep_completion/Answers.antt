use Rattle.std.proofs.Common.{◌∙◌, ℕ, ◌+◌, ◌≤◌, List, length, fold, map, ap, sym, subst, arith, refl}
use Rattle.std.proofs.lemmas.List.Sums.{fold-append}
use Rattle.asp_vars.specs.declared.nogood.Nogood.{Nogood}
use Rattle.asp_vars.specs.Literals.{Literal}
use Rattle.asp_complete.specs.Listed.{nogoods_between, pure}
use Rattle.asp_complete.proofs.ListedLaws.{between_all, between_more}
use Rattle.asp_order.specs.Heaps.{Ranking}
use Rattle.asp_propagate.specs.Propagating.{Propagating}
use Rattle.asp_state.specs.SearchStates.{AddsForever, with_places}
use Rattle.asp_state.proofs.ListedLaws.{listed_between}
use Rattle.asp_state.proofs.SlotLaws.{adds_all, adds_no_nogood}
use Rattle.asp_state.proofs.BegunLaws.{places_alike, places_listed}
use Rattle.asp_state.proofs.completed.keep_completion.Goals as goal

pub loop-from-init : goal.loop-from-init
loop-from-init g c = record {
  within = omega arith;
  same = refl;
  adds = adds_no_nogood c.args.engine.now.slots;
  order = refl;
}

pub keep_part-requires-clause-program : goal.keep_part-requires-clause-program
keep_part-requires-clause-program g c = ap (λ (e : Propagating). e.program) c.loop-from.invariant.same ∙ c.requires.program

pub keep_part-requires-clause-vars : goal.keep_part-requires-clause-vars
keep_part-requires-clause-vars g c =
    let p = c.args.compiled.now in
    let ns = nogoods_between p 0 c.loop-from.from in
    let alike = places_alike c.args.order.now (map pure ns) in
    ap (λ (h : Ranking). length h.activities) (c.loop-from.invariant.order ∙ sym (places_listed c.args.order.now ns)) ∙ alike.vars ∙ c.requires.vars

pub loop-from-preserved : goal.loop-from-preserved
loop-from-preserved g c =
    let p = c.args.compiled.now in
    let i = c.loop-from.invariant in
    let k = c.in_ok-keep_part.ensures in
    let from = c.loop-from.from in
    let to : ℕ = from + c.min.result in
    let le : from ≤ to = omega arith in
    let more = between_more p from to le in
    record {
      within = omega (arith, c.loop-from-test.true, c.in_ok-count.ensures, c.min.ensures);
      same = k.same ∙ ap (λ (e : Propagating). let f : Propagating = record e { slots = c.keep_part.new.engine.slots } in f) i.same;
      adds = subst (λ (ns : List Nogood). AddsForever ns c.args.engine.now.slots c.keep_part.new.engine.slots) (sym (listed_between p from to le)) (adds_all _ _ _ _ _ i.adds k.adds);
      order = k.order ∙ ap (λ (r : Ranking). fold with_places r (nogoods_between p from to)) i.order
          ∙ sym (fold-append with_places c.args.order.now (nogoods_between p 0 from) (nogoods_between p from to))
          ∙ ap (fold with_places c.args.order.now) (sym more);
    }

pub returns-clause-adds : goal.returns-clause-adds
returns-clause-adds g c =
    let p = c.args.compiled.now in
    let all = between_all p c.loop-from.from (omega (arith, c.loop-from-test.false, c.in_ok-count.ensures, c.loop-from.invariant.within)) in
    subst (λ (ns : List (List Literal)). AddsForever (map pure ns) c.args.engine.now.slots c.loop-from.engine.slots) all c.loop-from.invariant.adds

pub returns-clause-order : goal.returns-clause-order
returns-clause-order g c =
    let p = c.args.compiled.now in
    let all = between_all p c.loop-from.from (omega (arith, c.loop-from-test.false, c.in_ok-count.ensures, c.loop-from.invariant.within)) in
    c.loop-from.invariant.order ∙ ap (fold with_places c.args.order.now) all
