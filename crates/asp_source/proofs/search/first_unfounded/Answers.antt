use Rattle.std.proofs.Common.{◌≡◌, ◌≢◌, ℕ, ◌+◌, ◌-◌, ◌<◌, Bool, true, false, eqb, List, [], length, set, Option, refl, sym, ap, ◌∙◌, arith, inl, inr, get_or-set_other, get_or-set_same}
use Rattle.std.proofs.lemmas.Bool.{false≢true, eqb-true, eq-eqb}
use Rattle.std.proofs.lemmas.List.{length-set}
use Rattle.std.proofs.lemmas.List.Sums.{count_by-le-length}
use Rattle.asp_model.specs.declared.program.Program.{Program}
use Rattle.asp_scc.specs.Components.{Parts}
use Rattle.asp_source.specs.Marks.{is_marked}
use Rattle.asp_source.specs.Pointers.{ArePointers}
use Rattle.asp_source.proofs.PointerLaws.{none_unfounded}
use Rattle.asp_source.proofs.search.first_unfounded.Goals as goal

-- what was queued before a place left is queued once the place is back
queued_again : (q r : List Bool) (k j i : ℕ) → r ≡ set q k false → k < length q → j ≡ k → is_marked q i ≡ true → is_marked (set r j true) i ≡ true
queued_again q r k j i is lt at e = cases (eqb i j) refl
  where
    cases : (b : Bool) → b ≡ eqb i j → is_marked (set r j true) i ≡ true
    cases true same =
        ap (is_marked (set r j true)) (eqb-true i j (sym same))
        ∙ get_or-set_same r j true false (omega (arith, at, lt, ap length is, length-set q k false))
    cases false differ =
        let ne : i ≢ j = (λ a. false≢true (differ ∙ eq-eqb i j a)) in
        get_or-set_other r j i true false ne
        ∙ (ap (λ (marks : List Bool). is_marked marks i) is
        ∙ (get_or-set_other q k i false false (λ a. ne (a ∙ sym at)) ∙ e))

-- the pointers when the place that was popped is looked at
popped : (p : Program) (c : Parts) (x : List (Option Bool)) (s ranks : List ℕ) (q r : List Bool) (k : ℕ) → r ≡ set q k false → k < length q →
    ArePointers p c x s ranks q [] → ArePointers p c x s ranks (set r ((k + 1) - 1) true) []
popped p c x s ranks q r k is lt h = record {
  size = h.size;
  rank_room = h.rank_room;
  room = length-set r ((k + 1) - 1) true ∙ (ap length is ∙ (length-set q k false ∙ h.room));
  supports = h.supports;
  ranked = h.ranked;
  sought = λ v at none cyclic alive. elim (h.sought v at none cyclic alive) [
    | inl e ↦ inl (queued_again q r k ((k + 1) - 1) (v - 1) is lt (omega arith) e)
    | inr e ↦ inr e
  ];
}

pub look-requires-clause-pointers : goal.look-requires-clause-pointers
look-requires-clause-pointers c =
    popped c.args.setting.now.compiled.now c.args.setting.now.components.now c.args.setting.now.values.now c.loop-place.sources
    c.loop-place.ranks.ranks c.loop-place.queue c.pop.new.self c.in-Some.place c.in-Some.ensures.some c.in-Some.ensures.within
    c.loop-place.invariant.pointers

pub returns-clause-none : goal.returns-clause-none
returns-clause-none c =
    none_unfounded c.args.setting.now.compiled.now c.args.setting.now.components.now c.args.setting.now.values.now c.loop-place.sources
    c.loop-place.ranks.ranks c.loop-place.queue c.program-program.ensures.sound c.requires.components c.loop-place.invariant.pointers.supports
    c.loop-place.invariant.pointers.ranked c.loop-place.invariant.pointers.sought c.in_default.ensures.none

pub look-requires-clause-time : goal.look-requires-clause-time
look-requires-clause-time c = omega (arith, c.in-Some.ensures.fewer, c.loop-place.invariant.time)

pub loop-place-init : goal.loop-place-init
loop-place-init c = record {
  size = c.requires.loose;
  blank = c.requires.blank;
  room = c.requires.waiting;
  seats = c.requires.joined;
  time = let most = count_by-le-length (λ b. b) c.args.queue.now in omega (arith, most, c.requires.time, c.requires.pointers.room, c.vars-vars.ensures.few);
  pointers = c.requires.pointers;
}
