use Rattle.std.proofs.Common.{◌≡◌, Bool, true, refl, Option, List, Some, sym, ap, ◌∙◌, subst, arith}
use Rattle.std.specs.List.{slice_get}
use Rattle.std.proofs.lemmas.Option.{slice_get-get_or}
use Rattle.asp_vars.specs.Literals.{complement, holds_in}
use Rattle.asp_vars.specs.Codes.{code_of}
use Rattle.asp_trail.specs.Trails.{Trailed}
use Rattle.asp_store.specs.Marks.{Watch}
use Rattle.asp_store.specs.declared.front.Front.{Front}
use Rattle.asp_store.specs.declared.watches.Watches.{Watches}
use Rattle.asp_store.specs.Walking.{back}
use Rattle.asp_store.proofs.LookLaws.{false_top}
use Rattle.asp_store.proofs.StepLaws.{visit_var}
use Rattle.asp_store.proofs.BackLaws.{back_visit}
use Rattle.asp_store.proofs.top_walks.pass_place.Goals as goal

pub is_false-requires : goal.is_false-requires
is_false-requires c =
    let w : Watches = c.args.watches.now in
    let t : Trailed = c.args.trail.now in
    let f : Front = c.args.front.now in
    let xs : List Watch = c.args.list.now.items in
    let x : Watch = c.index-watch.result.now in
    let g : slice_get xs c.args.i ≡ Some x = slice_get-get_or xs c.args.i x c.requires.within ∙ ap Some (sym c.index-watch.ensures) in
    let s = c.in-Some.ensures.some in
    let v = back_visit c.args.slots.now w t f xs c.args.i c.id-id.result c.in-Some.other x s.0 c.len-len.ensures.ordered c.requires.walking g (sym c.id-id.ensures) s.1 s.2 in
    omega (arith, visit_var c.args.slots.now (back w (code_of f.lit) xs) t f c.args.i c.id-id.result c.in-Some.other v, c.assignment.ensures.len)

pub block-requires-clause-visit : goal.block-requires-clause-visit
block-requires-clause-visit c =
    let w : Watches = c.args.watches.now in
    let t : Trailed = c.args.trail.now in
    let f : Front = c.args.front.now in
    let xs : List Watch = c.args.list.now.items in
    let x : Watch = c.index-watch.result.now in
    let g : slice_get xs c.args.i ≡ Some x = slice_get-get_or xs c.args.i x c.requires.within ∙ ap Some (sym c.index-watch.ensures) in
    let s = c.in-Some.ensures.some in
    let v = back_visit c.args.slots.now w t f xs c.args.i c.id-id.result c.in-Some.other x s.0 c.len-len.ensures.ordered c.requires.walking g (sym c.id-id.ensures) s.1 s.2 in
    v

pub block-requires-clause-is_false : goal.block-requires-clause-is_false
block-requires-clause-is_false c =
    let t : Trailed = c.args.trail.now in
    let b = c.in-Some.other in
    false_top t.vars t.entries b c.args.front.now.level c.len-len.ensures.ordered (λ k d h. omega (arith, c.level-level.ensures.top k d h, c.level-level.ensures.level, c.requires.level))
    (subst (λ (a : List (Option Bool)). holds_in a (complement b) ≡ true) c.assignment.ensures.values (sym c.is_false.ensures ∙ c.if-is_false.true))

pub move_watch-requires : goal.move_watch-requires
move_watch-requires c =
    let w : Watches = c.args.watches.now in
    let t : Trailed = c.args.trail.now in
    let f : Front = c.args.front.now in
    let xs : List Watch = c.args.list.now.items in
    let x : Watch = c.index-watch.result.now in
    let g : slice_get xs c.args.i ≡ Some x = slice_get-get_or xs c.args.i x c.requires.within ∙ ap Some (sym c.index-watch.ensures) in
    let s = c.in-Some.ensures.some in
    let v = back_visit c.args.slots.now w t f xs c.args.i c.id-id.result c.in-Some.other x s.0 c.len-len.ensures.ordered c.requires.walking g (sym c.id-id.ensures) s.1 s.2 in
    v

pub returns-then-is_short : goal.returns-then-is_short
returns-then-is_short c =
    let xs : List Watch = c.args.list.now.items in
    let x : Watch = c.index-watch.result.now in
    let g : slice_get xs c.args.i ≡ Some x = slice_get-get_or xs c.args.i x c.requires.within ∙ ap Some (sym c.index-watch.ensures) in
    (c.requires.walking, refl, x, g, sym c.is_short.ensures ∙ c.if-is_short.true)
