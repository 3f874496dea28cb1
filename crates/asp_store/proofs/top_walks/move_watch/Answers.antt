use Rattle.std.proofs.Common.{◌≡◌, ◌<◌, Bool, true, false, Option, Some, List, [], ◌∷◌, ◌++◌, length, set, refl, sym, ap, ◌∙◌, subst, arith}
use Rattle.std.specs.List.{All, slice_get}
use Rattle.std.proofs.lemmas.List.{length-set}
use Rattle.asp_vars.specs.Literals.{Literal, has_literal, literal_eq, holds_in}
use Rattle.asp_vars.specs.Codes.{code_of}
use Rattle.asp_vars.specs.declared.nogood.Nogood.{Nogood}
use Rattle.asp_trail.specs.Trails.{Trailed}
use Rattle.asp_store.specs.declared.stored_nogood.StoredNogood.{StoredNogood}
use Rattle.asp_store.specs.Marks.{Watch}
use Rattle.asp_store.specs.declared.watch.Pair.{Pair}
use Rattle.asp_store.specs.declared.watches.Watches.{Watches}
use Rattle.asp_store.specs.declared.front.Front.{Front}
use Rattle.asp_store.specs.Keeping.{nogood_at}
use Rattle.asp_store.specs.Lists.{list_at}
use Rattle.asp_store.specs.Pairs.{pair_at, IsOneOf}
use Rattle.asp_store.specs.Walking.{back, IsWalking}
use Rattle.asp_store.proofs.LookLaws.{all_has}
use Rattle.asp_store.proofs.StepLaws.{code_of_list, row_small, visit_few, may_differ, moved}
use Rattle.asp_store.proofs.BackLaws.{back_at, may_watch, moved_back, moved_back_gone}
use Rattle.asp_store.proofs.top_walks.move_watch.Goals as goal

pub beside_from-requires : goal.beside_from-requires
beside_from-requires c =
    let v = c.requires in
    let u : Watches = back c.args.watches.now (code_of c.args.front.now.lit) c.args.list.now.items in
    let small = row_small c.args.slots.now u c.args.trail.now c.args.id v.pair v.walking.sound v.pair_is in
    subst (λ (xs : List Literal). All (λ k. k.var < length c.assignment.result.now) xs) (sym c.row.ensures) (λ k d h. omega (arith, small k d h, c.assignment.ensures.len))

pub returns-in-None : goal.returns-in-None
returns-in-None c = (
  c.requires,
  refl,
  λ k h ne.
      subst (λ (a : List (Option Bool)). holds_in a k ≡ true) c.assignment.ensures.values
      (all_has (λ l. literal_eq l c.args.other ≡ false → holds_in c.assignment.result.now l ≡ true) c.row.result.now k c.in-None.ensures.none
      (subst (λ (xs : List Literal). has_literal xs k ≡ true) (sym c.row.ensures) h) ne),
)

pub new-requires : goal.new-requires
new-requires c =
    visit_few c.args.slots.now (back c.args.watches.now (code_of c.args.front.now.lit) c.args.list.now.items) c.args.trail.now c.args.front.now c.args.i c.args.id c.args.other c.requires

pub push-requires : goal.push-requires
push-requires c =
    let slots : List (Option StoredNogood) = c.args.slots.now in
    let w : Watches = c.args.watches.now in
    let t : Trailed = c.args.trail.now in
    let f : Front = c.args.front.now in
    let xs : List Watch = c.args.list.now.items in
    let u : Watches = back w (code_of f.lit) xs in
    let id = c.args.id in
    let other : Literal = c.args.other in
    let l : Literal = c.in-Some.spot.lit in
    let may = may_watch slots u t f c.args.i id c.in-Some.spot.place other l c.requires
    (subst (λ (xs : List Literal). slice_get xs c.in-Some.spot.place ≡ Some l) c.row.ensures c.in-Some.ensures.place) c.in-Some.ensures.some.1
    (subst (λ (a : List (Option Bool)). holds_in a l ≡ false) c.assignment.ensures.values c.in-Some.ensures.some.2) in
    omega (arith, code_of_list slots u t l c.requires.walking.sound may.small, length-set w.lists (code_of f.lit) xs)

pub rewatch-requires-clause-pair : goal.rewatch-requires-clause-pair
rewatch-requires-clause-pair c = (c.requires.pair, c.requires.pair_is, c.requires.beside)

pub rewatch-requires-clause-stands : goal.rewatch-requires-clause-stands
rewatch-requires-clause-stands c = subst (λ (xs : List Literal). slice_get xs c.in-Some.spot.place ≡ Some c.in-Some.spot.lit) c.row.ensures c.in-Some.ensures.place

pub rewatch-requires-clause-is_new : goal.rewatch-requires-clause-is_new
rewatch-requires-clause-is_new c =
    let slots : List (Option StoredNogood) = c.args.slots.now in
    let w : Watches = c.args.watches.now in
    let t : Trailed = c.args.trail.now in
    let f : Front = c.args.front.now in
    let xs : List Watch = c.args.list.now.items in
    let u : Watches = back w (code_of f.lit) xs in
    let id = c.args.id in
    let other : Literal = c.args.other in
    let l : Literal = c.in-Some.spot.lit in
    let may = may_watch slots u t f c.args.i id c.in-Some.spot.place other l c.requires
    (subst (λ (xs : List Literal). slice_get xs c.in-Some.spot.place ≡ Some l) c.row.ensures c.in-Some.ensures.place) c.in-Some.ensures.some.1
    (subst (λ (a : List (Option Bool)). holds_in a l ≡ false) c.assignment.ensures.values c.in-Some.ensures.some.2) in
    (may_differ slots t f id other l c.len-len.ensures.ordered c.requires.walking.stands may, may.differ)

pub leave-requires : goal.leave-requires
leave-requires c =
    let slots : List (Option StoredNogood) = c.args.slots.now in
    let w : Watches = c.args.watches.now in
    let t : Trailed = c.args.trail.now in
    let f : Front = c.args.front.now in
    let xs : List Watch = c.args.list.now.items in
    let u : Watches = back w (code_of f.lit) xs in
    let id = c.args.id in
    let other : Literal = c.args.other in
    let l : Literal = c.in-Some.spot.lit in
    let may = may_watch slots u t f c.args.i id c.in-Some.spot.place other l c.requires
    (subst (λ (xs : List Literal). slice_get xs c.in-Some.spot.place ≡ Some l) c.row.ensures c.in-Some.ensures.place) c.in-Some.ensures.some.1
    (subst (λ (a : List (Option Bool)). holds_in a l ≡ false) c.assignment.ensures.values c.in-Some.ensures.some.2) in
    let a = c.in-Ok.ensures.ok ∙ ap (λ (x : Watch). set w.lists (code_of l) (list_at w.lists (code_of l) ++ x ∷ [])) c.new.ensures in
    let r = c.rewatch.ensures.0 in
    let b = c.rewatch.ensures.1 in
    let e : record w { lists = c.push.new.self; rows = c.rewatch.new.rows } ≡ moved w l other id r = λ j. record w { lists = a j; rows = b j } in
    record {
      walking = subst (λ (x : Watches). IsWalking slots (back x (code_of f.lit) xs) t f c.args.i) (sym e)
          (moved_back slots w t f xs c.args.i id other l r c.len-len.ensures.ordered may c.rewatch.ensures.2 c.requires);
      at = (
        c.requires.watch,
        back_at c.args.slots.now c.args.watches.now c.args.trail.now c.args.front.now c.args.list.now.items c.args.i c.args.id c.args.other c.len-len.ensures.ordered c.requires,
        c.requires.id_is,
      );
      gone = subst (λ (rs : List (List Literal)). (n : Nogood) (p : Pair) → nogood_at slots id ≡ Some n → pair_at rs id ≡ Some p → IsOneOf p f.lit → ⊥) (sym c.rewatch.ensures.1)
          (moved_back_gone slots w t f xs c.args.i id other l c.rewatch.ensures.0 c.len-len.ensures.ordered may c.rewatch.ensures.2 c.requires);
    }
