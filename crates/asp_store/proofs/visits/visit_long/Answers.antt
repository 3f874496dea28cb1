use Rattle.std.proofs.Common.{◌≡◌, ◌<◌, Bool, true, false, Option, Some, List, length, refl, sym, ◌∙◌, subst, arith, rules}
use Rattle.std.specs.List.{All, slice_get}
use Rattle.std.proofs.lemmas.Option.{same_Some}
use Rattle.asp_vars.specs.Literals.{Literal, holds_in, has_literal, literal_eq}
use Rattle.asp_vars.specs.declared.nogood.Nogood.{Nogood}
use Rattle.asp_trail.specs.Trails.{IsVar}
use Rattle.asp_store.proofs.GrowLaws.{extends_none}
use Rattle.asp_store.proofs.LookLaws.{all_has, differ_from}
use Rattle.asp_store.proofs.StepLaws.{row_small}
use Rattle.asp_store.proofs.visits.visit_long.Goals as goal

pub beside_from-requires : goal.beside_from-requires
beside_from-requires c =
    let v = c.requires.visit in
    let small = row_small c.args.slots.now c.args.watches.now c.args.trail.now c.args.id v.pair v.walking.sound v.pair_is in
    subst (λ (xs : List Literal). All (λ k. k.var < length c.assignment.result.now) xs) (sym c.row.ensures) (λ k d h. omega (arith, small k d h, c.assignment.ensures.len))

pub move_watch-requires-clause-visit : goal.move_watch-requires-clause-visit
move_watch-requires-clause-visit c = c.requires.visit

pub move_watch-requires-clause-stands : goal.move_watch-requires-clause-stands
move_watch-requires-clause-stands c = subst (λ (xs : List Literal). slice_get xs c.in-Some.spot.place ≡ Some c.in-Some.spot.lit) c.row.ensures c.in-Some.ensures.place

pub move_watch-requires-clause-may : goal.move_watch-requires-clause-may
move_watch-requires-clause-may c =
    let v = c.requires.visit in
    let m = v.walking.sound.net.kept c.args.id v.pair v.pair_is in
    let s = c.in-Some.ensures.some in
    let l = c.in-Some.spot.lit in
    let has : has_literal m.0.lits l ≡ true = m.2 l ∙ subst (λ (xs : List Literal). has_literal xs l ≡ true) c.row.ensures s.0 in
    record {
      small = (all_has (λ k. IsVar c.args.trail.now.vars k.var) m.0.lits l (v.walking.sound.net.small c.args.id m.0 m.1) has).1;
      has = λ n h. subst (λ (x : Nogood). has_literal x.lits l ≡ true) (same_Some m.0 n (sym m.1 ∙ h)) has;
      differ = λ e. differ_from l c.args.other s.1 (sym e);
      not_true = subst (λ (a : List (Option Bool)). holds_in a l ≡ false) c.assignment.ensures.values s.2;
    }

pub visit_last-requires-clause-others : goal.visit_last-requires-clause-others
visit_last-requires-clause-others c = λ k h ne.
    subst (λ (a : List (Option Bool)). holds_in a k ≡ true) c.assignment.ensures.values
    (all_has (λ l. literal_eq l c.args.other ≡ false → holds_in c.assignment.result.now l ≡ true) c.row.result.now k c.in-None.ensures.none
    (subst (λ (xs : List Literal). has_literal xs k ≡ true) (sym c.row.ensures) h) ne)

pub returns-in_err-move_watch-in-Some-clause-same : goal.returns-in_err-move_watch-in-Some-clause-same
returns-in_err-move_watch-in-Some-clause-same c = refl

pub returns-in_err-move_watch-in-Some-clause-extends : goal.returns-in_err-move_watch-in-Some-clause-extends
returns-in_err-move_watch-in-Some-clause-extends c = extends_none c.args.slots.now c.args.trail.now.entries

pub returns-in_err-move_watch-in-Some-clause-sound : goal.returns-in_err-move_watch-in-Some-clause-sound
returns-in_err-move_watch-in-Some-clause-sound c = c.move_watch.ensures.sound

pub returns-in_err-move_watch-in-Some-clause-steps : goal.returns-in_err-move_watch-in-Some-clause-steps
returns-in_err-move_watch-in-Some-clause-steps c = search rules

pub visit_last-requires-clause-visit : goal.visit_last-requires-clause-visit
visit_last-requires-clause-visit c = c.requires.visit

pub visit_last-requires-clause-room : goal.visit_last-requires-clause-room
visit_last-requires-clause-room c = c.requires.room

pub returns-in_ok-move_watch-in-Some-clause-same : goal.returns-in_ok-move_watch-in-Some-clause-same
returns-in_ok-move_watch-in-Some-clause-same c = refl

pub returns-in_ok-move_watch-in-Some-clause-extends : goal.returns-in_ok-move_watch-in-Some-clause-extends
returns-in_ok-move_watch-in-Some-clause-extends c = extends_none c.args.slots.now c.args.trail.now.entries

pub returns-in_ok-move_watch-in-Some-clause-sound : goal.returns-in_ok-move_watch-in-Some-clause-sound
returns-in_ok-move_watch-in-Some-clause-sound c = c.move_watch.ensures.sound

pub returns-in_ok-move_watch-in-Some-clause-steps : goal.returns-in_ok-move_watch-in-Some-clause-steps
returns-in_ok-move_watch-in-Some-clause-steps c = c.in_ok-move_watch-in-Some.ensures.steps

pub returns-in-None-clause-same : goal.returns-in-None-clause-same
returns-in-None-clause-same c = c.visit_last.ensures.same

pub returns-in-None-clause-extends : goal.returns-in-None-clause-extends
returns-in-None-clause-extends c = c.visit_last.ensures.extends

pub returns-in-None-clause-sound : goal.returns-in-None-clause-sound
returns-in-None-clause-sound c = c.visit_last.ensures.sound

pub returns-in-None-clause-steps : goal.returns-in-None-clause-steps
returns-in-None-clause-steps c = c.visit_last.ensures.steps
