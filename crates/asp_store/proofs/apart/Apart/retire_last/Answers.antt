use Rattle.std.proofs.Common.{◌-◌, ◌<◌, ◌≤◌, ℕ, List, sym, subst}
use Rattle.asp_store.specs.Parted.{Parted, Retires}
use Rattle.asp_store.proofs.PartedLaws.{retires_last}
use Rattle.asp_store.proofs.apart.Apart.retire_last.Goals as goal

pub returns : goal.returns
returns c =
    let i = c.self.inside in
    let lt : c.args.i < i.last = subst (λ (a : Parted). c.args.i < a.last) (sym c.self.view_is) c.requires.within in
    let low : i.first ≤ c.args.i = subst (λ (a : Parted). a.first ≤ c.args.i) (sym c.self.view_is) c.requires.waits in
    subst (λ (a : Parted). Retires a (record { items = c.swap.new.self.items; first = i.first; last = i.last - 1 }) c.args.i c.args.i) c.self.view_is
    (subst (λ (xs : List ℕ). Retires (record { items = i.items.items; first = i.first; last = i.last })
    (record { items = xs; first = i.first; last = i.last - 1 }) c.args.i c.args.i) (sym c.swap.ensures.items)
    (retires_last (record { items = i.items.items; first = i.first; last = i.last }) c.args.i c.self.invariant.1 lt low))
