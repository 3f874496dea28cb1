use Rattle.std.proofs.Common.{map, take}
use Rattle.std.specs.Prelude.{Contains}
use Rattle.std.specs.List.{AllByRecursion}
use Rattle.asp_rows.specs.declared.row.Row.{Row}
use Rattle.asp_checker.proofs.promise.are_listed.Given as goal

abbrev pub invariant-loop-row : goal.invariant-loop-row
invariant-loop-row l = AllByRecursion (Contains l.listed.sets) (map (λ (r : Row). r.set) (take l.row-index l.rows))
