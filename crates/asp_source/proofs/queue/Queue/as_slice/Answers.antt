use Rattle.std.proofs.Common.{◌≡◌, ◌<◌, ℕ, true, Bool, List, get_or, length, sym, subst}
use Rattle.asp_model.specs.Sets.{has}
use Rattle.asp_source.specs.Marks.{is_marked}
use Rattle.asp_source.proofs.QueueLaws.{queue_within, queue_all}
use Rattle.asp_source.proofs.queue.Queue.as_slice.Goals as goal

pub returns-clause-within : goal.returns-clause-within
returns-clause-within c i d lt =
    let same : c.as_slice.result.now ≡ c.self.inside.queue.items = c.as_slice.ensures.value in
    subst (λ (ts : List Bool). get_or c.as_slice.result.now i d < length ts) c.self.view_is
    (subst (λ (q : List ℕ). get_or q i d < length c.self.inside.marks.items) (sym same)
    (queue_within c.self.inside.marks.items c.self.inside.queue.items _ i d c.self.invariant (subst (λ (q : List ℕ). i < length q) same lt)))

pub returns-clause-all : goal.returns-clause-all
returns-clause-all c k marked =
    let same : c.as_slice.result.now ≡ c.self.inside.queue.items = c.as_slice.ensures.value in
    subst (λ (q : List ℕ). has q k ≡ true) (sym same)
    (queue_all c.self.inside.marks.items c.self.inside.queue.items _ k c.self.invariant
    (subst (λ (ts : List Bool). is_marked ts k ≡ true) (sym c.self.view_is) marked))
