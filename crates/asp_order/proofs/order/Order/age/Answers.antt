use Rattle.std.proofs.Common.{◌≡◌, ℕ, length, sym, ap, subst, ◌∙◌}
use Rattle.asp_order.specs.Heaps.{Ranking}
use Rattle.asp_order.specs.Waiting.{aged}
use Rattle.asp_order.proofs.HeapLaws.{IsAlike, aged_alike, alike_order}
use Rattle.asp_order.proofs.order.Order.age.Goals as goal

-- the heap before and after has the same variables
alike : (old new : Ranking) (times : ℕ) → new ≡ aged old times → IsAlike old new
alike old new times is = subst (IsAlike old) (sym is) (aged_alike old times)

pub invariant_of-self : goal.invariant_of-self
invariant_of-self c = alike_order c.self.inside.heap c.decay_all.new.heap (alike c.self.inside.heap c.decay_all.new.heap c.args.times c.decay_all.ensures) c.self.invariant

pub returns-clause-members : goal.returns-clause-members
returns-clause-members c =
    (alike c.self.inside.heap c.decay_all.new.heap c.args.times c.decay_all.ensures).members ∙ ap (λ (h : Ranking). h.members) c.self.view_is

pub returns-clause-vars : goal.returns-clause-vars
returns-clause-vars c =
    (alike c.self.inside.heap c.decay_all.new.heap c.args.times c.decay_all.ensures).vars ∙ ap (λ (h : Ranking). length h.activities) c.self.view_is
