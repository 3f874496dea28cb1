use Rattle.std.proofs.Common.{◌+◌, false, replicate, ap, ◌∙◌}
use Rattle.asp_source.proofs.start.blank_marks.Goals as goal

pub returns : goal.returns
returns c = record {
  marks = c.in_ok-loose.ensures.items_if_clones_equal (λ y q. q) ∙ ap (λ n. replicate (n + 1) false) c.atom_count.ensures.count;
  free = c.in_ok-waiting.ensures ∙ ap (λ n. replicate n false) c.atom_count-2.ensures.count;
  seated = c.in_ok-joined.ensures ∙ ap (λ n. replicate n false) c.atom_count-3.ensures.count;
}
