use Rattle.std.proofs.Common.{◌≡◌, ℕ, false, List, get_or, sym, ap, ◌∙◌, subst, arith}
use Rattle.asp_store.specs.Keeping.{kept_at, is_from_propagator}
use Rattle.asp_store.specs.Storing.{Has}
use Rattle.asp_store.proofs.GivenLaws.{has_kept}
use Rattle.asp_store.proofs.given.forget_gone.Goals as goal

pub numbers-preserved : goal.numbers-preserved
numbers-preserved c = λ k this has.
    let given : List ℕ = c.numbers.given.items in
    let slots = c.args.slots.now in
    let d = c.index.result.now in
    let gone : is_from_propagator (kept_at slots (get_or given c.numbers.i d)) ≡ false =
    ap (λ (j : ℕ). is_from_propagator (kept_at slots j)) (sym c.index.ensures) ∙ (sym c.is_from_propagator_at.ensures ∙ c.if-is_from_propagator_at.false) in
    subst (λ (xs : List ℕ). Has xs k) (sym c.swap_remove.ensures.items)
    (has_kept slots given c.numbers.i c.swap_remove.result d k (omega (arith, c.numbers-test.true, c.len.ensures, c.numbers.given.ok.0)) gone this (c.numbers.invariant k this has))
