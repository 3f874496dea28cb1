use Rattle.std.proofs.Common.{◌≡◌, ◌<◌, ℕ, List, length, take, ap, sym, subst, ◌∙◌}
use Rattle.std.specs.List.{All}
use Rattle.asp_vars.specs.Literals.{Literal}
use Rattle.asp_vars.specs.declared.nogood.Nogood.{Nogood}
use Rattle.asp_order.specs.Heaps.{Ranking}
use Rattle.asp_state.proofs.BegunLaws.{places_alike}
use Rattle.asp_state.proofs.begun.begin_all.Goals as goal

pub begin-requires : goal.begin-requires
begin-requires c =
    let i = c.loop-nogood.nogood-index in
    let e : length c.loop-nogood.order.activities ≡ length c.args.order.now.activities =
    ap (λ (h : Ranking). length h.activities) c.loop-nogood.invariant ∙ (places_alike c.args.order.now (take i c.args.nogoods.now)).vars in
    let has : ℕ → List Literal → Type 0 = λ k ls. All (λ (l : Literal). l.var < k) ls in
    let at : has (length c.args.order.now.activities) c.nogood-item.result.lits =
    subst (λ (n : Nogood). has (length c.args.order.now.activities) n.lits) (sym c.nogood-item.is) (c.requires i c.nogood-item.result c.loop-nogood-test.true) in
    subst (has (length c.loop-nogood.order.activities)) (sym c.as_slice.ensures.value) (subst (λ (k : ℕ). has k c.nogood-item.result.lits) (sym e) at)
