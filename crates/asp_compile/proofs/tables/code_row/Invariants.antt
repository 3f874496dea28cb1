use Rattle.std.proofs.Common.{◌≡◌, map, take}
use Rattle.asp_vars.specs.Codes.{code_of}
use Rattle.asp_compile.proofs.tables.code_row.Given as goal

abbrev pub invariant-loop-lit : goal.invariant-loop-lit
invariant-loop-lit l = l.row.items ≡ map code_of (take l.lit-index l.lits)
