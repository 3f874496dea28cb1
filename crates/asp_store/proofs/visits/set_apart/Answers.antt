use Rattle.std.proofs.Common.{◌≡◌, List, sym, ap, ◌∙◌, subst}
use Rattle.asp_vars.specs.Literals.{Literal}
use Rattle.asp_store.specs.declared.watches.Watches.{Watches}
use Rattle.asp_store.specs.Pairs.{pair_at}
use Rattle.asp_store.specs.Parted.{Parted}
use Rattle.asp_store.specs.Sounding.{IsSound}
use Rattle.asp_store.specs.Walking.{IsWalking}
use Rattle.asp_store.proofs.StepLaws.{visit_id, put_apart, apart_walking, apart_gone}
use Rattle.asp_store.proofs.visits.set_apart.Goals as goal

pub clear-requires : goal.clear-requires
clear-requires c = visit_id c.args.slots.now c.args.watches.now c.args.trail.now c.args.front.now c.args.i c.args.id c.args.other c.requires.visit

pub leave-requires-clause-walking : goal.leave-requires-clause-walking
leave-requires-clause-walking c =
    let w = c.args.watches.now in
    let b = c.clear.ensures in
    let e : record w { rows = c.clear.new.self; apart = c.push.new.self } ≡ put_apart w c.push.new.self c.args.id = λ j. record w { rows = b j; apart = c.push.new.self } in
    subst (λ (x : Watches). IsWalking c.args.slots.now x c.args.trail.now c.args.front.now c.args.i) (sym e)
    (apart_walking c.args.slots.now w c.args.trail.now c.args.front.now c.args.i c.args.id c.args.other c.requires.is_false.0 c.push.new.self c.in_ok-push.ensures.ok
    c.requires.is_false.1 c.requires.visit)

pub leave-requires-clause-at : goal.leave-requires-clause-at
leave-requires-clause-at c = (c.requires.visit.watch, c.requires.visit.at, c.requires.visit.id_is)

pub leave-requires-clause-gone : goal.leave-requires-clause-gone
leave-requires-clause-gone c = λ n p h g o.
    apart_gone c.args.slots.now c.args.watches.now c.args.trail.now c.args.front.now c.args.i c.args.id c.args.other c.requires.visit p
    (sym (ap (λ (rs : List (List Literal)). pair_at rs c.args.id) c.clear.ensures) ∙ g)

pub returns-clause-sound : goal.returns-clause-sound
returns-clause-sound c = c.leave.ensures.0.sound

pub returns-clause-steps : goal.returns-clause-steps
returns-clause-steps c = (c.leave.ensures.0, c.leave.ensures.1)

pub returns-in_err-push-clause-sound : goal.returns-in_err-push-clause-sound
returns-in_err-push-clause-sound c =
    let w = c.args.watches.now in
    subst (λ (a : Parted). IsSound c.args.slots.now (record w { apart = a }) c.args.trail.now) (sym c.in_err-push.ensures.err) c.requires.visit.walking.sound
