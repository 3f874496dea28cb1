use Rattle.std.proofs.Common.{◌≡◌, ◌<◌, false, List, Option, length, set, sym, ap, subst, ◌∙◌, arith}
use Rattle.std.proofs.lemmas.List.{take_at, length-set}
use Rattle.asp_store.specs.declared.stored_nogood.StoredNogood.{StoredNogood}
use Rattle.asp_store.specs.Keeping.{kept_at, with_lock}
use Rattle.asp_store.specs.Storing.{Stored, IsStore}
use Rattle.asp_store.proofs.StoreLaws.{store_lock}
use Rattle.asp_store.proofs.store.Store.unlock.Goals as goal

pub invariant_of-self : goal.invariant_of-self
invariant_of-self c =
    let i = c.self.inside in
    let slots = i.slots.items in
    let h : c.args.id < length slots = subst (λ (s : Stored). c.args.id < length s.slots) (sym c.self.view_is) c.requires in
    let e : c.set_locked.new.slots ≡ set slots c.args.id (with_lock false (kept_at slots c.args.id)) =
    c.set_locked.ensures ∙ ap (λ (xs : List (Option StoredNogood)). set xs c.args.id (with_lock false (kept_at xs c.args.id))) c.as_mut_slice.ensures.value in
    let len : length c.set_locked.new.slots ≡ i.slots.len =
    omega (arith, ap (length {A = Option StoredNogood}) e, length-set slots c.args.id (with_lock false (kept_at slots c.args.id)), i.slots.ok.0) in
    rw (take_at c.set_locked.new.slots)
    (subst (λ (xs : List (Option StoredNogood)). IsStore i.vars xs i.watches i.extra i.given.items) (sym e)
    (store_lock i.vars slots i.watches i.given.items i.extra c.args.id false h c.self.invariant))
