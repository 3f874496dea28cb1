use Rattle.std.proofs.Common.{sym, ap, subst, ◌∙◌}
use Rattle.asp_store.specs.Parted.{Parted}
use Rattle.asp_store.specs.Storing.{Stored, IsStore, AreActive, recalled}
use Rattle.asp_store.proofs.StoreLaws.{store_recall, active_recall}
use Rattle.asp_store.proofs.store.Store.recall.Goals as goal

pub invariant_of-self : goal.invariant_of-self
invariant_of-self c =
    let i = c.self.inside in
    subst (λ (a : Parted). IsStore i.vars i.slots.items (record i.watches { apart = a }) i.extra i.given.items) (sym c.recall.ensures)
    (store_recall i.vars i.slots.items i.watches i.given.items i.extra c.self.invariant)

pub returns-clause-recalled : goal.returns-clause-recalled
returns-clause-recalled c =
    let i = c.self.inside in
    ap (λ (a : Parted). let s : Stored = record { vars = i.vars; slots = i.slots.items; rows = i.watches.rows; apart = a; given = i.given.items } in s) c.recall.ensures ∙ ap recalled c.self.view_is

pub returns-clause-active : goal.returns-clause-active
returns-clause-active c =
    let i = c.self.inside in
    subst (λ (a : Parted). AreActive (record { vars = i.vars; slots = i.slots.items; rows = i.watches.rows; apart = a; given = i.given.items })) (sym c.recall.ensures)
    (active_recall i.vars i.slots.items i.watches i.given.items i.extra c.self.invariant)
