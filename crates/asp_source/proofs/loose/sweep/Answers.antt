use Rattle.std.proofs.Common.{◌+◌, Bool, get_or, sym, ◌∙◌, subst, arith}
use Rattle.asp_scc.proofs.SearchLaws.{get_or-any}
use Rattle.asp_source.proofs.FoundLaws.{room_then, Sweeping, sweep_begins, sweep_drops, sweep_passes, sweep_ends}
use Rattle.asp_source.proofs.loose.sweep.Goals as goal
use Rattle.asp_source.proofs.loose.sweep.Goals.{then-found_one, else-found_one}

pub overflow_add-place : goal.overflow_add-place
overflow_add-place c = omega (arith, c.vars-vars.ensures.few, c.requires.places c.loop-place.place-index 0 c.loop-place-test.true)

pub loop-place-init : goal.loop-place-init
loop-place-init c = sweep_begins c.args.compiled.now c.args.values.now c.args.sources.now c.args.ranks.now c.args.loose.now c.args.waiting.now c.args.places.now

pub loop-place-preserved : goal.loop-place-preserved
loop-place-preserved c = elim c.if-found_one.branch [
  | then-found_one w ↦ subst
      (λ (b : Bool). Sweeping c.args.compiled.now c.args.values.now c.args.sources.now c.args.ranks.now c.args.loose.now c.args.waiting.now
      c.found_one.new.sources c.found_one.new.ranks c.found_one.new.loose c.found_one.new.waiting c.args.places.now (c.loop-place.place-index + 1)
      b) (sym w.dropped-is)
      (sweep_drops c.args.compiled.now c.args.values.now c.args.sources.now c.args.ranks.now c.args.loose.now c.args.waiting.now c.loop-place.sources
      c.loop-place.ranks c.loop-place.loose c.loop-place.waiting c.found_one.new.sources c.found_one.new.ranks c.found_one.new.loose
      c.found_one.new.waiting c.args.places.now c.loop-place.place-index c.loop-place.dropped c.found_one.ensures.founds
      (c.found_one.ensures.fewer w.if-found_one.true) c.loop-place.invariant)
  | else-found_one w ↦ subst
      (λ (b : Bool). Sweeping c.args.compiled.now c.args.values.now c.args.sources.now c.args.ranks.now c.args.loose.now c.args.waiting.now
      c.found_one.new.sources c.found_one.new.ranks c.found_one.new.loose c.found_one.new.waiting c.args.places.now (c.loop-place.place-index + 1)
      b) (sym w.dropped-is)
      (sweep_passes c.args.compiled.now c.args.values.now c.args.sources.now c.args.ranks.now c.args.loose.now c.args.waiting.now c.loop-place.sources
      c.loop-place.ranks c.loop-place.loose c.loop-place.waiting c.found_one.new.sources c.found_one.new.ranks c.found_one.new.loose
      c.found_one.new.waiting c.args.places.now c.loop-place.place-index (get_or c.args.places.now c.loop-place.place-index 0)
      c.loop-place.dropped c.found_one.ensures.founds (c.found_one.ensures.same w.if-found_one.false)
      (sym c.found_one.ensures.founded ∙ w.if-found_one.false) (λ d lt. get_or-any c.args.places.now c.loop-place.place-index d 0 lt) c.loop-place.invariant)
]

pub returns-clause-stuck : goal.returns-clause-stuck
returns-clause-stuck c = λ e.
    sweep_ends c.args.compiled.now c.args.values.now c.args.sources.now c.args.ranks.now c.args.loose.now c.args.waiting.now c.loop-place.sources
    c.loop-place.ranks c.loop-place.loose c.loop-place.waiting c.args.places.now c.loop-place.place-index (omega (arith, c.loop-place-test.false))
    (subst (λ (b : Bool). Sweeping c.args.compiled.now c.args.values.now c.args.sources.now c.args.ranks.now c.args.loose.now c.args.waiting.now
    c.loop-place.sources c.loop-place.ranks c.loop-place.loose c.loop-place.waiting c.args.places.now c.loop-place.place-index b) e
    c.loop-place.invariant)

pub found_one-requires-clause-room : goal.found_one-requires-clause-room
found_one-requires-clause-room c =
    room_then c.args.compiled.now c.args.values.now c.args.sources.now c.args.ranks.now c.args.loose.now c.args.waiting.now c.loop-place.sources
    c.loop-place.ranks c.loop-place.loose c.loop-place.waiting c.requires.room c.loop-place.invariant.founds
