use Rattle.std.proofs.Common.{arith, ◌+◌, ◌∷◌, [], ◌++◌, sym, subst}
use Rattle.asp_pool.proofs.Passes.{Opened, opened_none, opened_push}
use Rattle.asp_pool.proofs.pool.Pool.open.Goals as goal

pub loop-index-init : goal.loop-index-init
loop-index-init c = opened_none _ _ c.new-thieves.ensures.items c.new-owners.ensures.items

pub loop-index-preserved : goal.loop-index-preserved
loop-index-preserved c = subst (λ l. Opened (c.loop-index.index + 1) l c.push-in-loop-index.new.self.items) (sym c.in_ok-push.ensures.items)
    (subst (λ l. Opened (c.loop-index.index + 1) (c.loop-index.thieves.items ++ c.in_ok-thief.field-0 ∷ []) l) (sym c.in_ok-push-2.ensures.items)
    (opened_push c.loop-index.index c.loop-index.thieves.items c.loop-index.owners.items c.in_ok-thief.field-0 c.in_ok-owner.owner
    c.loop-index.invariant c.in_ok-thief.ensures.0 c.in_ok-owner.ensures c.in_ok-thief.ensures.1))

pub invariant_of-result : goal.invariant_of-result
invariant_of-result c =
    let h = c.loop-index.invariant in
    let in_range = c.loop-index.auto.index-end in
    let same = h.1.0 in
    let n = h.0 in
    record { fifo = h.3; few = omega (arith, c.ranges.lanes) }

pub returns : goal.returns
returns c = let h = c.loop-index.invariant in let out = c.loop-index-test.false in let in_range = c.loop-index.auto.index-end in let n = h.0 in ((omega arith), h.1, h.2)
