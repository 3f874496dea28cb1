use Rattle.std.proofs.Common.{◌≡◌, ◌+◌, length}
use Rattle.asp_model.specs.Sets.{IsAscending}
use Rattle.asp_proof.specs.Changes.{changed}
use Rattle.asp_proof.proofs.changes.count_changed.Given as goal

abbrev pub invariant-turns : goal.invariant-turns
invariant-turns l = record {
  one : IsAscending l.one;
  other : IsAscending l.other;
  counted : l.count + length (changed l.one l.other) ≡ length (changed l.initial.one l.initial.other);
  most : l.most ≡ length l.initial.one + length l.initial.other;
}

abbrev pub decreases-turns : goal.decreases-turns
decreases-turns l = length l.one + length l.other
