use Rattle.std.proofs.Common.{◌≡◌, ◌++◌, map, take}
use Rattle.asp_vars.specs.Numbering.{literal_in}
use Rattle.asp_compile.proofs.tables.add_items.Given as goal

abbrev pub invariant-loop-literal : goal.invariant-loop-literal
invariant-loop-literal l = l.row.items ≡ l.initial.row.items ++ map (λ i. literal_in l.atoms i.0) (take l.literal-index l.items)
