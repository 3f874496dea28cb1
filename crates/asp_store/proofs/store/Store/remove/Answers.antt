use Rattle.std.proofs.Common.{◌≡◌, ◌<◌, ◌-◌, List, Option, Some, None, length, get_or, set, refl, sym, ap, subst, ◌∙◌, arith}
use Rattle.std.specs.List.{count_by}
use Rattle.std.proofs.lemmas.List.{take_at, length-set}
use Rattle.asp_store.specs.declared.stored_nogood.StoredNogood.{StoredNogood}
use Rattle.asp_store.specs.declared.watches.Watches.{Watches}
use Rattle.asp_store.specs.Keeping.{is_extra, nogood_at}
use Rattle.asp_store.specs.Storing.{Stored, IsStore, removed}
use Rattle.asp_store.specs.Unlisting.{Unlists}
use Rattle.asp_store.proofs.PlaceLaws.{code_within}
use Rattle.asp_store.proofs.StoreLaws.{store_remove}
use Rattle.asp_store.proofs.store.Store.remove.Goals as goal

pub overflow_sub-self : goal.overflow_sub-self
overflow_sub-self c = omega (arith, c.remove_slot.ensures.count, ap (count_by is_extra) c.as_mut_slice.ensures.value, c.self.invariant.counted)

pub clear-requires : goal.clear-requires
clear-requires c =
    let h : c.args.id < length c.self.inside.slots.items = subst (λ (s : Stored). c.args.id < length s.slots) (sym c.self.view_is) c.requires in
    omega (arith, h, c.self.invariant.net.paired)

pub unlist-requires-clause-within : goal.unlist-requires-clause-within
unlist-requires-clause-within c =
    let h : c.args.id < length c.self.inside.slots.items = subst (λ (s : Stored). c.args.id < length s.slots) (sym c.self.view_is) c.requires in
    omega (arith, h, ap (length {A = Option StoredNogood}) c.as_slice.ensures.value)

pub unlist-requires-clause-few : goal.unlist-requires-clause-few
unlist-requires-clause-few c = omega (arith, c.self.invariant.net.numbered, ap (length {A = Option StoredNogood}) c.as_slice.ensures.value)

pub unlist-requires-clause-small : goal.unlist-requires-clause-small
unlist-requires-clause-small c = λ n g k d h.
    let i = c.self.inside in
    let at : nogood_at i.slots.items c.args.id ≡ Some n = ap (λ (xs : List (Option StoredNogood)). nogood_at xs c.args.id) (sym c.as_slice.ensures.value) ∙ g in
    omega (arith, code_within (get_or n.lits k d) i.vars (c.self.invariant.net.small c.args.id n at k d h).1, c.self.invariant.net.sized)

pub invariant_of-self : goal.invariant_of-self
invariant_of-self c =
    let i = c.self.inside in
    let slots = i.slots.items in
    let h : c.args.id < length slots = subst (λ (s : Stored). c.args.id < length s.slots) (sym c.self.view_is) c.requires in
    let e : c.remove_slot.new.slots ≡ set slots c.args.id None =
    c.remove_slot.ensures.slots ∙ ap (λ (xs : List (Option StoredNogood)). set xs c.args.id None) c.as_mut_slice.ensures.value in
    let len : length c.remove_slot.new.slots ≡ i.slots.len = omega (arith, ap (length {A = Option StoredNogood}) e, length-set slots c.args.id None, i.slots.ok.0) in
    let u : Unlists slots i.watches.lists c.unlist.new.lists c.args.id =
    subst (λ (xs : List (Option StoredNogood)). Unlists xs i.watches.lists c.unlist.new.lists c.args.id) c.as_slice.ensures.value c.unlist.ensures in
    let z : Watches = record i.watches { lists = c.unlist.new.lists; rows = c.clear.new.self } in
    rw (take_at c.remove_slot.new.slots)
    (subst (λ (xs : List (Option StoredNogood)). IsStore i.vars xs z (i.extra - c.remove_slot.result) i.given.items) (sym e)
    (store_remove i.vars slots i.watches z i.given.items i.extra (i.extra - c.remove_slot.result) c.args.id c.self.invariant h u c.clear.ensures refl
    (omega (arith, c.remove_slot.ensures.count, c.self.invariant.counted, ap (count_by is_extra) e, ap (count_by is_extra) c.as_mut_slice.ensures.value))))

pub returns : goal.returns
returns c =
    let i = c.self.inside in
    let slots = i.slots.items in
    let h : c.args.id < length slots = subst (λ (s : Stored). c.args.id < length s.slots) (sym c.self.view_is) c.requires in
    let e : c.remove_slot.new.slots ≡ set slots c.args.id None =
    c.remove_slot.ensures.slots ∙ ap (λ (xs : List (Option StoredNogood)). set xs c.args.id None) c.as_mut_slice.ensures.value in
    let len : length c.remove_slot.new.slots ≡ i.slots.len = omega (arith, ap (length {A = Option StoredNogood}) e, length-set slots c.args.id None, i.slots.ok.0) in
    let k : c.args.id < length i.watches.rows = omega (arith, h, c.self.invariant.net.paired) in
    rw (take_at c.remove_slot.new.slots)
    ((λ j. let s : Stored = record { vars = i.vars; slots = e j; rows = c.clear.ensures j; apart = i.watches.apart; given = i.given.items } in s)
    ∙ ap (λ (s : Stored). removed s c.args.id) c.self.view_is)
