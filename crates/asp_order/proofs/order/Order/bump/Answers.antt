use Rattle.std.proofs.Common.{length, ap, ◌∙◌}
use Rattle.asp_order.specs.Heaps.{Ranking}
use Rattle.asp_order.proofs.HeapLaws.{learnt_alike, alike_order}
use Rattle.asp_order.proofs.order.Order.bump.Goals as goal

pub invariant_of-self : goal.invariant_of-self
invariant_of-self c =
    alike_order c.self.inside.heap c.bump_and_decay.new.heap
    (learnt_alike c.self.inside.heap c.bump_and_decay.new.heap c.args.met.now c.bump_and_decay.ensures) c.self.invariant

pub returns-clause-members : goal.returns-clause-members
returns-clause-members c =
    (learnt_alike c.self.inside.heap c.bump_and_decay.new.heap c.args.met.now c.bump_and_decay.ensures).members
    ∙ ap (λ (h : Ranking). h.members) c.self.view_is

pub returns-clause-vars : goal.returns-clause-vars
returns-clause-vars c =
    (learnt_alike c.self.inside.heap c.bump_and_decay.new.heap c.args.met.now c.bump_and_decay.ensures).vars
    ∙ ap (λ (h : Ranking). length h.activities) c.self.view_is
