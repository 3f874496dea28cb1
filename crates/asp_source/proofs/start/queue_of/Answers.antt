use Rattle.std.proofs.Common.{false, length, ap, ◌∙◌}
use Rattle.std.proofs.lemmas.List.{length-replicate}
use Rattle.asp_source.proofs.start.queue_of.Goals as goal

pub queue_all-requires-clause-size : goal.queue_all-requires-clause-size
queue_all-requires-clause-size c = ap length c.in_ok-queue.ensures ∙ length-replicate c.atom_count.result false ∙ c.atom_count.ensures.count
