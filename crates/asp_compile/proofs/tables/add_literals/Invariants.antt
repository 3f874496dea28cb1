use Rattle.std.proofs.Common.{◌≡◌, ◌++◌, map, take}
use Rattle.asp_vars.specs.Numbering.{literal_in}
use Rattle.asp_compile.proofs.tables.add_literals.Given as goal

abbrev pub invariant-loop-literal : goal.invariant-loop-literal
invariant-loop-literal l = l.row.items ≡ l.initial.row.items ++ map (literal_in l.atoms) (take l.literal-index l.literals)
