use Rattle.std.proofs.Common.{◌≡◌, ◌≤◌, ◌++◌, map, take}
use Rattle.std.specs.Prelude.{All}
use Rattle.asp_model.specs.Models.{atoms_of}
use Rattle.asp_vars.specs.Numbering.{number_count}
use Rattle.asp_vars.specs.Completion.{supports}
use Rattle.asp_scc.proofs.graph.with_atoms.Given as goal

abbrev pub invariant-loop-atom : goal.invariant-loop-atom
invariant-loop-atom l =
    (l.rows ≡ l.initial.rows ++ map (supports l.compiled) (take l.atom (atoms_of l.compiled))) × All (All (λ v. v ≤ number_count l.compiled)) l.rows
