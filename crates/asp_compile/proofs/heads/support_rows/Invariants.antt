use Rattle.std.proofs.Common.{◌≡◌, ◌+◌, map, take}
use Rattle.asp_compile.proofs.heads.support_rows.Given as goal

abbrev pub invariant-loop-row : goal.invariant-loop-row
invariant-loop-row l = l.supports ≡ map (λ row. map (λ o. l.first + o.body) row) (take l.row l.rows)
