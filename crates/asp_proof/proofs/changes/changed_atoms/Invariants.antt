use Rattle.std.proofs.Common.{◌≡◌, ◌+◌, ◌++◌, length}
use Rattle.asp_model.specs.Sets.{IsAscending}
use Rattle.asp_proof.specs.Changes.{changed}
use Rattle.asp_proof.proofs.changes.changed_atoms.Given as goal

abbrev pub invariant-turns : goal.invariant-turns
invariant-turns l = record {
  one : IsAscending l.one;
  other : IsAscending l.other;
  so_far : l.atoms.items ++ changed l.one l.other ≡ changed l.initial.one l.initial.other;
}

abbrev pub decreases-turns : goal.decreases-turns
decreases-turns l = length l.one + length l.other
