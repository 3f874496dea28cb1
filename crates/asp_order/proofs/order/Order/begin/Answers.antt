use Rattle.std.proofs.Common.{sym, subst}
use Rattle.asp_order.proofs.HeapLaws.{IsAlike, all_bumped_alike, alike_order}
use Rattle.asp_order.proofs.order.Order.begin.Goals as goal

pub invariant_of-self : goal.invariant_of-self
invariant_of-self c =
    let old = c.self.inside.heap in
    alike_order old c.bump_all.new.heap (subst (IsAlike old) (sym c.bump_all.ensures) (all_bumped_alike old c.args.lits.now)) c.self.invariant
