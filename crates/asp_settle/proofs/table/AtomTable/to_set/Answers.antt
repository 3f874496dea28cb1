use Rattle.std.proofs.Common.{sym, ap, ◌∙◌, subst, take}
use Rattle.std.proofs.lemmas.List.{take_all}
use Rattle.asp_model.specs.Sets.{IsAscending}
use Rattle.asp_settle.specs.Tables.{places_from}
use Rattle.asp_settle.proofs.TableLaws.{places-ascend, places_passed, places_pushed}
use Rattle.asp_settle.proofs.table.AtomTable.to_set.Goals as goal
use Rattle.asp_settle.proofs.table.AtomTable.to_set.Goals.{then-flag+in_ok-push, else-flag}

pub loop-place-preserved : goal.loop-place-preserved
loop-place-preserved c =
    let flags = c.as_slice-flag-items.result.now in
    let pushed = places_pushed flags c.loop-place.place c.loop-place.atoms.items c.loop-place-test.true c.loop-place.invariant in
    let passed = places_passed flags c.loop-place.place c.loop-place.atoms.items c.loop-place-test.true c.loop-place.invariant in
    elim c.if-flag.branch [
      | then-flag+in_ok-push w ↦ ap (λ v. v.items) w.atoms-is ∙ w.in_ok-push.ensures.items ∙ pushed w.if-flag.true
      | else-flag w ↦ ap (λ v. v.items) w.atoms-is ∙ passed w.if-flag.false
    ]

pub from_ascending-requires : goal.from_ascending-requires
from_ascending-requires c = subst IsAscending (sym c.loop-place.invariant) (places-ascend 0 (take c.loop-place.place c.as_slice-flag-items.result.now))

pub returns : goal.returns
returns c =
    c.from_ascending.ensures ∙ c.loop-place.invariant
    ∙ ap (places_from 0)
    (take_all c.loop-place.place c.as_slice-flag-items.result.now c.loop-place-test.false ∙ c.as_slice-flag-items.ensures.value) ∙ c.self.view_is
