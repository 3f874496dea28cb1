use Rattle.std.proofs.Common.{◌≡◌, Some, sym, ap, ◌∙◌}
use Rattle.std.proofs.lemmas.Option.{same_Some, slice_get_within, slice_get-get_or}
use Rattle.asp_vars.specs.Codes.{code_of}
use Rattle.asp_store.specs.Marks.{Watch}
use Rattle.asp_store.specs.Walking.{back}
use Rattle.asp_store.proofs.StepLaws.{last_told, passed_told}
use Rattle.asp_store.proofs.BackLaws.{back_place, back_within}
use Rattle.asp_store.proofs.top_walks.end_told.Goals as goal

pub bounds-list-i : goal.bounds-list-i
bounds-list-i c = slice_get_within c.args.list.now c.args.i c.requires.told.0 c.requires.told.1

pub end_nogood-requires-clause-last : goal.end_nogood-requires-clause-last
end_nogood-requires-clause-last c =
    let w = c.args.watches.now in
    let f = c.args.front.now in
    let xs = c.args.list.now in
    let y = c.requires.told.0 in
    let x = c.index-list-i.result in
    let e : x ≡ y = same_Some x y (sym (slice_get-get_or xs c.args.i x (slice_get_within xs c.args.i y c.requires.told.1) ∙ ap Some (sym c.index-list-i.is)) ∙ c.requires.told.1) in
    last_told c.args.slots.now (back w (code_of f.lit) xs) c.args.trail.now f c.args.i c.id-id.result y c.blocker-blocker.result c.len-len.ensures.ordered c.requires.walking
    (back_place w (code_of f.lit) xs c.args.i y (back_within c.args.slots.now w c.args.trail.now f xs c.args.i c.len-len.ensures.ordered c.requires.walking) c.requires.told.1)
    c.requires.told.2 (c.id-id.ensures ∙ ap (λ (z : Watch). z.id) e) (c.blocker-blocker.ensures ∙ ap (λ (z : Watch). z.blocker) e)

pub returns-clause-passed : goal.returns-clause-passed
returns-clause-passed c =
    let w = c.args.watches.now in
    let f = c.args.front.now in
    let xs = c.args.list.now in
    let y = c.requires.told.0 in
    let x = c.index-list-i.result in
    let e : x ≡ y = same_Some x y (sym (slice_get-get_or xs c.args.i x (slice_get_within xs c.args.i y c.requires.told.1) ∙ ap Some (sym c.index-list-i.is)) ∙ c.requires.told.1) in
    passed_told c.args.slots.now w xs c.end_nogood.new.trail f c.args.i _ y c.blocker-blocker.result c.end_nogood.result
    (back_place w (code_of f.lit) xs c.args.i y (back_within c.args.slots.now w c.args.trail.now f xs c.args.i c.len-len.ensures.ordered c.requires.walking) c.requires.told.1)
    (c.blocker-blocker.ensures ∙ ap (λ (z : Watch). z.blocker) e) c.requires.level c.end_nogood.ensures.is_false
    (c.end_nogood.ensures.ends.walking (back w (code_of f.lit) xs) f c.args.i c.requires.walking)
