use Rattle.std.proofs.Common.{◌≡◌, List, [], ◌∷◌, ◌++◌, Some, set, sym, ap, ◌∙◌, subst}
use Rattle.asp_vars.specs.Literals.{Literal}
use Rattle.asp_vars.specs.Codes.{code_of}
use Rattle.asp_store.specs.Marks.{Watch}
use Rattle.asp_store.specs.declared.watch.Pair.{Pair}
use Rattle.asp_store.specs.declared.watches.Watches.{Watches}
use Rattle.asp_store.specs.Lists.{list_at, place, size}
use Rattle.asp_vars.specs.declared.nogood.Nogood.{Nogood}
use Rattle.asp_store.specs.Keeping.{nogood_at}
use Rattle.asp_store.specs.Pairs.{pair_at, IsOneOf}
use Rattle.asp_store.specs.Sounding.{IsSound}
use Rattle.asp_store.specs.Walking.{IsWalking}
use Rattle.asp_store.proofs.StepLaws.{code_of_list, visit_few, may_differ, moved, moved_walking, moved_at, moved_size, moved_gone}
use Rattle.asp_store.proofs.visits.move_watch.Goals as goal

pub new-requires : goal.new-requires
new-requires c = visit_few c.args.slots.now c.args.watches.now c.args.trail.now c.args.front.now c.args.i c.args.id c.args.other c.requires.visit

pub push-requires : goal.push-requires
push-requires c = code_of_list c.args.slots.now c.args.watches.now c.args.trail.now c.args.spot.lit c.requires.visit.walking.sound c.requires.may.small

pub rewatch-requires-clause-pair : goal.rewatch-requires-clause-pair
rewatch-requires-clause-pair c = (c.requires.visit.pair, c.requires.visit.pair_is, c.requires.visit.beside)

pub rewatch-requires-clause-stands : goal.rewatch-requires-clause-stands
rewatch-requires-clause-stands c = c.requires.stands

pub rewatch-requires-clause-is_new : goal.rewatch-requires-clause-is_new
rewatch-requires-clause-is_new c = (
  may_differ c.args.slots.now c.args.trail.now c.args.front.now c.args.id c.args.other c.args.spot.lit c.len-len.ensures.ordered c.requires.visit.walking.stands c.requires.may,
  c.requires.may.differ,
)

pub leave-requires-clause-walking : goal.leave-requires-clause-walking
leave-requires-clause-walking c =
    let w = c.args.watches.now in
    let a = (c.in_ok-push.ensures.ok ∙ ap
    (λ (x : Watch). set c.args.watches.now.lists (code_of c.args.spot.lit)
    (list_at c.args.watches.now.lists (code_of c.args.spot.lit) ++ x ∷ [])) c.new.ensures) in
    let r = c.rewatch.ensures.0 in
    let b = c.rewatch.ensures.1 in
    let e : record w { lists = c.push.new.self; rows = c.rewatch.new.rows } ≡ moved w c.args.spot.lit c.args.other c.args.id r = λ j. record w { lists = a j; rows = b j } in
    subst (λ (x : Watches). IsWalking c.args.slots.now x c.args.trail.now c.args.front.now c.args.i) (sym e)
    (moved_walking c.args.slots.now w c.args.trail.now c.args.front.now c.args.i c.args.id c.args.other c.args.spot.lit r c.len-len.ensures.ordered c.requires.may c.rewatch.ensures.2 c.requires.visit)

pub leave-requires-clause-at : goal.leave-requires-clause-at
leave-requires-clause-at c =
    let m = moved_at c.args.slots.now c.args.watches.now c.args.trail.now c.args.front.now c.args.i c.args.id c.args.other c.args.spot.lit
    c.rewatch.ensures.0 c.len-len.ensures.ordered c.requires.may c.requires.visit in (
      m.0,
      ap (λ (ls : List (List Watch)). place ls (code_of c.args.front.now.lit) c.args.i)
          (c.in_ok-push.ensures.ok ∙ ap (λ (x : Watch). set c.args.watches.now.lists (code_of c.args.spot.lit)
          (list_at c.args.watches.now.lists (code_of c.args.spot.lit) ++ x ∷ [])) c.new.ensures) ∙ m.1,
      m.2,
    )

pub leave-requires-clause-gone : goal.leave-requires-clause-gone
leave-requires-clause-gone c =
    subst (λ (rs : List (List Literal)). (n : Nogood) (p : Pair) → nogood_at c.args.slots.now c.args.id ≡ Some n → pair_at rs c.args.id ≡ Some p → IsOneOf p c.args.front.now.lit → ⊥)
    (sym c.rewatch.ensures.1)
    (moved_gone c.args.slots.now c.args.watches.now c.args.trail.now c.args.front.now c.args.i c.args.id c.args.other c.args.spot.lit
    c.rewatch.ensures.0 c.len-len.ensures.ordered c.requires.may c.rewatch.ensures.2 c.requires.visit)

pub returns-clause-sound : goal.returns-clause-sound
returns-clause-sound c = c.leave.ensures.0.sound

pub returns-clause-steps : goal.returns-clause-steps
returns-clause-steps c = (
  c.leave.ensures.0,
  c.leave.ensures.1 ∙ (ap (λ (ls : List (List Watch)). size ls (code_of c.args.front.now.lit))
      (c.in_ok-push.ensures.ok ∙ ap (λ (x : Watch). set c.args.watches.now.lists (code_of c.args.spot.lit)
      (list_at c.args.watches.now.lists (code_of c.args.spot.lit) ++ x ∷ [])) c.new.ensures)
      ∙ moved_size c.args.slots.now c.args.watches.now c.args.trail.now c.args.front.now c.args.i c.args.id c.args.other c.args.spot.lit
      c.rewatch.ensures.0 c.len-len.ensures.ordered c.requires.may c.requires.visit),
)

pub returns-in_err-push-clause-sound : goal.returns-in_err-push-clause-sound
returns-in_err-push-clause-sound c =
    let w = c.args.watches.now in
    subst (λ (ls : List (List Watch)). IsSound c.args.slots.now (record w { lists = ls }) c.args.trail.now) (sym c.in_err-push.ensures.err) c.requires.visit.walking.sound
