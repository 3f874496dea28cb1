use Rattle.std.proofs.Common.{◌≡◌, ◌++◌, drop}
use Rattle.asp_unsat.specs.Blaming.{coded_in}
use Rattle.asp_unsat.proofs.blamed.add_coded.Given as goal

abbrev pub invariant-loop-literal : goal.invariant-loop-literal
invariant-loop-literal l =
    l.core.items ++ coded_in l.compiled l.codes.keys (drop l.literal-index l.literals) ≡ l.initial.core.items ++ coded_in l.compiled l.codes.keys l.literals
