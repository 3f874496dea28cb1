use Rattle.std.proofs.Common.{◌≡◌, ◌+◌, ◌≤◌, ◌++◌, take, drop}
use Rattle.asp_weight.specs.Rows.{total_of}
use Rattle.asp_weight.specs.Spoken.{gathered}
use Rattle.asp_weight.specs.Explained.{before}
use Rattle.asp_weight.proofs.speech.gather.Given as goal

abbrev pub invariant-loop-item : goal.invariant-loop-item
invariant-loop-item l = record {
  whole : l.lits.items ++ gathered l.side (before l.trail l.place) l.need l.sum (drop l.item-index l.row) ≡ l.fn.lits.items ++ gathered l.side (before l.trail l.place) l.need l.start l.row;
  small : l.sum ≤ l.start + total_of (take l.item-index l.row);
}
