use Rattle.std.proofs.Common.{ℕ, List, Option, [], sym, subst}
use Rattle.asp_store.specs.declared.stored_nogood.StoredNogood.{StoredNogood}
use Rattle.asp_store.specs.declared.watches.Watches.{Watches}
use Rattle.asp_store.specs.Storing.{IsStore}
use Rattle.asp_store.proofs.StoreLaws.{store_new}
use Rattle.asp_store.proofs.store.Store.new.Goals as goal

pub invariant_of-result : goal.invariant_of-result
invariant_of-result c =
    subst (λ (ks : List ℕ). IsStore c.args.vars c.new-2.result.items c.in_ok-watches.watches 0 ks) (sym c.new-4.ensures.items)
    (subst (λ (xs : List (Option StoredNogood)). IsStore c.args.vars xs c.in_ok-watches.watches 0 []) (sym c.new-2.ensures.items)
    (subst (λ (w : Watches). IsStore c.args.vars [] w 0 []) (sym c.in_ok-watches.ensures) (store_new c.args.vars c.requires)))
