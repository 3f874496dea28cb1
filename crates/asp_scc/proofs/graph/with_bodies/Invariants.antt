use Rattle.std.proofs.Common.{◌≡◌, ◌≤◌, ◌++◌, map, take}
use Rattle.std.specs.Prelude.{All}
use Rattle.asp_vars.specs.Numbering.{bodies_of, number_count}
use Rattle.asp_scc.specs.Dependencies.{positives}
use Rattle.asp_scc.proofs.graph.with_bodies.Given as goal

abbrev pub invariant-loop-body : goal.invariant-loop-body
invariant-loop-body l =
    (l.rows ≡ l.initial.rows ++ map (positives l.compiled) (take l.body (bodies_of l.compiled))) × All (All (λ v. v ≤ number_count l.compiled)) l.rows
