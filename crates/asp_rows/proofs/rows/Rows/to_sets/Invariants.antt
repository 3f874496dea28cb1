use Rattle.std.proofs.Common.{◌≡◌, map, take}
use Rattle.asp_rows.specs.declared.row.Row.{Row}
use Rattle.asp_rows.proofs.rows.Rows.to_sets.Given as goal

abbrev pub invariant-loop-row : goal.invariant-loop-row
invariant-loop-row l = l.sets.items ≡ map (λ (x : Row). x.set) (take l.row-index l.row-items)
