use Rattle.std.proofs.Common.{◌≡◌, ◌+◌, ◌*◌, ◌≤◌, length, [], count_by}
use Rattle.asp_model.specs.Models.{atoms_of}
use Rattle.asp_source.specs.Marks.{AreBlank}
use Rattle.asp_source.specs.Pointers.{ArePointers}
use Rattle.asp_source.proofs.search.first_unfounded.Given as goal

abbrev pub invariant-loop-place : goal.invariant-loop-place
invariant-loop-place l = record {
  size : length l.loose ≡ length (atoms_of l.setting.compiled.now) + 1;
  blank : AreBlank l.loose;
  room : length l.waiting ≡ length (atoms_of l.setting.compiled.now);
  seats : length l.joined ≡ length (atoms_of l.setting.compiled.now);
  time : l.ranks.clock + 2147483648 * count_by (λ b. b) l.queue ≤ 13835058055282163712;
  pointers : ArePointers l.setting.compiled.now l.setting.components.now l.setting.values.now l.sources l.ranks.ranks l.queue [];
}

abbrev pub decreases-loop-place : goal.decreases-loop-place
decreases-loop-place l = count_by (λ b. b) l.queue
