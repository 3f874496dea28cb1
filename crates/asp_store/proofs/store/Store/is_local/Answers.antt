use Rattle.std.proofs.Common.{◌≡◌, ◌<◌, None, length, sym, ap, ◌∙◌, subst}
use Rattle.asp_trail.proofs.EntryLaws.{same_default}
use Rattle.asp_store.specs.Keeping.{is_local, kept_at}
use Rattle.asp_store.specs.Storing.{Stored}
use Rattle.asp_store.proofs.store.Store.is_local.Goals as goal

pub returns : goal.returns
returns c =
    let i = c.self.inside in
    let h : c.args.id < length i.slots.items = subst (λ (x : Stored). c.args.id < length x.slots) (sym c.self.view_is) c.requires in
    let at : kept_at c.args.self.now.slots c.args.id ≡ c.index.result.now =
    sym (ap (λ (x : Stored). kept_at x.slots c.args.id) c.self.view_is) ∙ (same_default i.slots.items c.args.id None c.index.result.now h ∙ sym c.index.ensures) in
    c.is_local_slot.ensures ∙ sym (ap is_local at)
