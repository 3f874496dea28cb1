use Rattle.std.proofs.Common.{◌≡◌, ℕ, ◌<◌, ◌-◌, true, length, count_by, ◌⊎◌}
use Rattle.asp_source.specs.Marks.{is_marked}
use Rattle.asp_source.specs.Marks.{AreBlank}
use Rattle.asp_source.proofs.loose.drain.Given as goal

abbrev pub invariant-loop-place : goal.invariant-loop-place
invariant-loop-place l = record {
  room : length l.queue ≡ length l.initial.queue;
  seats : length l.joined ≡ length l.initial.joined;
  listed : (v : ℕ) → is_marked l.loose v ≡ true → (0 < v) × (is_marked l.joined (v - 1) ≡ true);
  more : (k : ℕ) → is_marked l.initial.queue k ≡ true → is_marked l.queue k ≡ true;
  queued : (v : ℕ) → is_marked l.initial.loose v ≡ true → (is_marked l.queue (v - 1) ≡ true) ⊎ (is_marked l.loose v ≡ true);
  less : (v : ℕ) → is_marked l.loose v ≡ true → is_marked l.initial.loose v ≡ true;
  same : AreBlank l.initial.loose → l.queue ≡ l.initial.queue;
}

abbrev pub decreases-loop-place : goal.decreases-loop-place
decreases-loop-place l = count_by (λ b. b) l.joined
