use Rattle.std.proofs.Common.{◌+◌, ◌++◌, ◌∷◌, [], ℕ, ◌≡◌, List, length, sym, ap, ◌∙◌, subst, arith}
use Rattle.std.specs.List.{swap}
use Rattle.asp_store.specs.Parted.{Parted, Adds}
use Rattle.asp_store.proofs.PartedLaws.{adds}
use Rattle.asp_store.proofs.apart.Apart.push.Goals as goal

pub returns-clause-ok : goal.returns-clause-ok
returns-clause-ok c =
    let i = c.self.inside in
    let end : c.len-end.result ≡ length i.items.items = omega (arith, c.len-end.ensures, i.items.ok.0) in
    let is : c.swap.new.self.items ≡ swap (i.items.items ++ c.args.id ∷ []) i.last (length i.items.items) =
    c.swap.ensures.items ∙ (ap (λ (xs : List ℕ). swap xs i.last c.len-end.result) c.in_ok-push.ensures.items ∙ ap (swap (i.items.items ++ c.args.id ∷ []) i.last) end) in
    subst (λ (a : Parted). Adds a (record { items = c.swap.new.self.items; first = i.first; last = i.last + 1 }) c.args.id) c.self.view_is
    (subst (λ (xs : List ℕ). Adds (record { items = i.items.items; first = i.first; last = i.last }) (record { items = xs; first = i.first; last = i.last + 1 }) c.args.id) (sym is)
    (adds (record { items = i.items.items; first = i.first; last = i.last }) c.args.id c.self.invariant.0 c.self.invariant.1))
