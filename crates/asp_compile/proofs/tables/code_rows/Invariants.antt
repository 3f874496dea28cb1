use Rattle.std.proofs.Common.{◌≡◌, map, take}
use Rattle.asp_vars.specs.Codes.{code_of}
use Rattle.asp_compile.proofs.tables.code_rows.Given as goal

abbrev pub invariant-loop-row : goal.invariant-loop-row
invariant-loop-row l = l.codes ≡ map (map code_of) (take l.row l.rows)
