use Rattle.std.proofs.Common.{◌<◌, ◌≤◌, take}
use Rattle.std.specs.List.{All}
use Rattle.asp_model.specs.Holding.{atom_of}
use Rattle.asp_unfold.proofs.unfold.above.Given as goal

abbrev pub invariant-loop-statement : goal.invariant-loop-statement
invariant-loop-statement l = record {
  above : All (λ m. All (λ i. atom_of i.0 < l.above) m.items) (take l.statement-index l.statements);
  most : l.above ≤ 4294967296;
}
