use Rattle.std.proofs.Common.{◌≡◌, List, true, get_or, sym, ap, ◌∙◌, arith}
use Rattle.std.proofs.lemmas.Option.{same_Some, slice_get_within, slice_get-get_or}
use Rattle.asp_vars.specs.Codes.{code_of}
use Rattle.asp_vars.specs.Literals.{complement, holds_in}
use Rattle.asp_trail.specs.Entries.{assignment}
use Rattle.asp_trail.specs.Trails.{Trailed}
use Rattle.asp_store.specs.Marks.{Watch}
use Rattle.asp_store.specs.declared.front.Front.{Front}
use Rattle.asp_store.specs.declared.watches.Watches.{Watches}
use Rattle.asp_store.specs.Walking.{back}
use Rattle.asp_store.proofs.LookLaws.{false_top}
use Rattle.asp_store.proofs.StepLaws.{walking_later}
use Rattle.asp_store.proofs.BackLaws.{back_within, back_place, back_front}
use Rattle.asp_store.proofs.top_walks.past_blocked.Goals as goal

pub first_unblocked-requires-clause-small : goal.first_unblocked-requires-clause-small
first_unblocked-requires-clause-small c = λ k d h.
    let w : Watches = c.args.watches.now in
    let f : Front = c.args.front.now in
    let xs : List Watch = c.args.list.now in
    let lt = back_within c.args.slots.now w c.args.trail.now f xs c.args.i c.len-len.ensures.ordered c.requires.walking in
    omega (
      arith,
      c.assignment.ensures.len,
      (c.requires.walking.sound.net.places (code_of f.lit) k (get_or xs k d)
          (back_place w (code_of f.lit) xs k (get_or xs k d) lt (slice_get-get_or xs k d h))).small,
    )

pub returns-clause-walking : goal.returns-clause-walking
returns-clause-walking c =
    let w : Watches = c.args.watches.now in
    let t : Trailed = c.args.trail.now in
    let f : Front = c.args.front.now in
    let xs : List Watch = c.args.list.now in
    let lt = back_within c.args.slots.now w t f xs c.args.i c.len-len.ensures.ordered c.requires.walking in
    walking_later c.args.slots.now (back w (code_of f.lit) xs) t f c.args.i c.first_unblocked.result (λ k x from to at.
    let g = back_front w (code_of f.lit) xs k x lt at in
    let is : get_or xs k x ≡ x = same_Some (get_or xs k x) x (sym (slice_get-get_or xs k x (slice_get_within xs k x g)) ∙ g) in
    let b : holds_in (assignment t.vars t.entries) (complement (get_or xs k x).blocker) ≡ true = rw (c.assignment.ensures.values) at (c.first_unblocked.ensures.blocked k x from to) in
    false_top t.vars t.entries x.blocker f.level c.len-len.ensures.ordered (λ k d h. omega (arith, c.level-level.ensures.top k d h, c.level-level.ensures.level, c.requires.level))
    (ap (λ (y : Watch). holds_in (assignment t.vars t.entries) (complement y.blocker)) (sym is) ∙ b)) c.requires.walking
