use Rattle.std.proofs.Common.{ℕ, replicate, ap, ◌∙◌}
use Rattle.asp_source.proofs.KeptLaws.{pointers_anew}
use Rattle.asp_source.proofs.start.refresh.Goals as goal

pub queue_all-requires-clause-size : goal.queue_all-requires-clause-size
queue_all-requires-clause-size c = c.requires.pointers.room

pub returns-clause-pointers : goal.returns-clause-pointers
returns-clause-pointers c =
    let none : ℕ = 0 in
    pointers_anew c.args.compiled.now c.args.components.now c.args.values.now c.fill.new.self c.renew.new.self.ranks c.queue_all.new.queue
    (c.fill.ensures.after (λ y q. q) ∙ ap (λ n. replicate n none) c.requires.pointers.size)
    (c.renew.ensures.size ∙ c.requires.pointers.rank_room)
    c.queue_all.ensures.size
    c.queue_all.ensures.queued
