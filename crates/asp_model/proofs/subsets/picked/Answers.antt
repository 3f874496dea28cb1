use Rattle.std.proofs.Common.{ℕ, ◌∷◌, [], ◌++◌, arith, sym, subst, take, get_or, ap, ◌∙◌, Vec, Global}
use Rattle.std.proofs.lemmas.List.{take_all, append-nil}
use Rattle.asp_model.specs.Sets.{IsAscending}
use Rattle.asp_model.proofs.WalkLaws.{picked_more, IsAscending-picked}
use Rattle.asp_model.proofs.subsets.picked.Goals as goal
use Rattle.asp_model.proofs.subsets.picked.Goals.{then-marks-i+in_ok-push, else-marks-i}

pub loop-i-preserved : goal.loop-i-preserved
loop-i-preserved c =
    let more = picked_more c.args.atoms.now c.args.marks.now c.loop-i.i c.requires.marks c.loop-i-test.true in
    elim c.if-marks-i.branch [
      | then-marks-i+in_ok-push w ↦
          let next = rw w.if-marks-i.true at more in
          ap (λ (v : Vec ℕ Global). v.items) w.list-is ∙ w.in_ok-push.ensures.items ∙ ap (λ S. S ++ get_or c.args.atoms.now c.loop-i.i 0 ∷ []) c.loop-i.invariant ∙ sym next
      | else-marks-i w ↦
          let next = rw w.if-marks-i.false at more in
          ap (λ (v : Vec ℕ Global). v.items) w.list-is ∙ c.loop-i.invariant ∙ sym (append-nil _) ∙ sym next
    ]

pub from_ascending-requires : goal.from_ascending-requires
from_ascending-requires c =
    let L = take c.loop-i.i c.args.atoms.now in
    let marks = take c.loop-i.i c.args.marks.now in
    subst IsAscending (sym c.loop-i.invariant) (IsAscending-picked L marks (subst IsAscending (sym (take_all c.loop-i.i c.args.atoms.now (omega arith))) c.requires.ascending))
