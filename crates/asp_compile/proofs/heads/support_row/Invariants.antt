use Rattle.std.proofs.Common.{◌≡◌, ◌+◌, map, take}
use Rattle.asp_compile.proofs.heads.support_row.Given as goal

abbrev pub invariant-loop-cell : goal.invariant-loop-cell
invariant-loop-cell l = l.row.items ≡ map (λ o. l.first + o.body) (take l.cell-index l.cells)
