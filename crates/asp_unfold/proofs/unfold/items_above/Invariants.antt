use Rattle.std.proofs.Common.{◌<◌, ◌≤◌, take}
use Rattle.std.specs.List.{All}
use Rattle.asp_model.specs.Holding.{atom_of}
use Rattle.asp_unfold.proofs.unfold.items_above.Given as goal

abbrev pub invariant-loop-literal : goal.invariant-loop-literal
invariant-loop-literal l = record {
  above : All (λ i. atom_of i.0 < l.above) (take l.literal-index l.items);
  most : l.above ≤ 4294967296;
}
