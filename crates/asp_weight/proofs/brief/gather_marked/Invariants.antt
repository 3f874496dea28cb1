use Rattle.std.proofs.Common.{◌+◌, ◌-◌, ◌≤◌, length, take}
use Rattle.asp_weight.specs.Rows.{total_of}
use Rattle.asp_weight.specs.Brief.{IsGathered}
use Rattle.asp_weight.specs.Explained.{before}
use Rattle.asp_weight.proofs.brief.gather_marked.Given as goal

abbrev pub invariant-loop-sum : goal.invariant-loop-sum
invariant-loop-sum l = record {
  gathered : IsGathered l.side (before l.trail l.place) l.start l.sum l.from l.row l.fn.lits.items l.lits.items;
  small : l.sum ≤ l.start + total_of (take l.from l.row);
  within : l.from ≤ length l.row;
}

abbrev pub decreases-loop-sum : goal.decreases-loop-sum
decreases-loop-sum l = length l.row - l.from
