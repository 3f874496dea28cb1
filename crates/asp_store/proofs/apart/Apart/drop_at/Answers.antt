use Rattle.std.proofs.Common.{◌-◌, ◌<◌, ◌≤◌, ℕ, ◌≡◌, List, sym, ap, ◌∙◌, subst}
use Rattle.std.specs.List.{swap, swap_remove}
use Rattle.asp_store.specs.Parted.{Parted, Drops}
use Rattle.asp_store.proofs.PartedLaws.{drops}
use Rattle.asp_store.proofs.apart.Apart.drop_at.Goals as goal

pub returns : goal.returns
returns c =
    let i = c.self.inside in
    let lt : c.args.i < i.last = subst (λ (a : Parted). c.args.i < a.last) (sym c.self.view_is) c.requires.within in
    let low : i.first ≤ c.args.i = subst (λ (a : Parted). a.first ≤ c.args.i) (sym c.self.view_is) c.requires.waits in
    let is : c.swap_remove.new.self.items ≡ swap_remove (swap i.items.items c.args.i (i.last - 1)) (i.last - 1) c.swap_remove.result =
    c.swap_remove.ensures.items ∙ ap (λ (xs : List ℕ). swap_remove xs (i.last - 1) c.swap_remove.result) c.swap.ensures.items in
    subst (λ (a : Parted). Drops a (record { items = c.swap_remove.new.self.items; first = i.first; last = i.last - 1 }) c.args.i) c.self.view_is
    (subst (λ (xs : List ℕ). Drops (record { items = i.items.items; first = i.first; last = i.last }) (record { items = xs; first = i.first; last = i.last - 1 }) c.args.i) (sym is)
    (drops (record { items = i.items.items; first = i.first; last = i.last }) c.args.i c.swap_remove.result c.self.invariant.1 lt low))
