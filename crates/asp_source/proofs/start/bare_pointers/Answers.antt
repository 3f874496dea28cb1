use Rattle.std.proofs.Common.{ℕ, ◌+◌, replicate, ap, ◌∙◌}
use Rattle.asp_source.proofs.start.bare_pointers.Goals as goal

pub returns : goal.returns
returns c =
    let none : ℕ = 0 in
    record {
      bare = c.in_ok-sources.ensures.items_if_clones_equal (λ y q. q) ∙ ap (λ n. replicate (n + 1) none) c.atom_count.ensures.count;
      ranked = c.in_ok-ranks.ensures.size ∙ ap (λ n. n + 1) c.atom_count-2.ensures.count;
      clock = c.in_ok-ranks.ensures.clock;
      room = c.in_ok-queue.ensures.size;
      queued = c.in_ok-queue.ensures.queued;
    }
