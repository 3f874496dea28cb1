use Rattle.std.proofs.Common.{◌≡◌, ◌++◌, take}
use Rattle.std.specs.List.{flat_map}
use Rattle.asp_bound.specs.Priced.{IsPriced}
use Rattle.asp_bound.specs.Late.{only}
use Rattle.asp_bound.specs.Reasons.{before, held_at}
use Rattle.asp_bound.proofs.late.all_before.Given as goal

abbrev pub invariant-loop-i : goal.invariant-loop-i
invariant-loop-i l = record {
  lits : l.lits.items ≡ l.initial.lits.items ++ flat_map (held_at (before l.trail l.place)) (take l.i l.raisers);
  kept : IsPriced l.priced (only (before l.trail l.place) (take l.i l.raisers)) l.sums.items;
}
