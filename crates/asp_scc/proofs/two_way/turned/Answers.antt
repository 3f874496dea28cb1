use Rattle.std.proofs.Common.{◌≡◌, ℕ, length, sym, subst, arith}
use Rattle.asp_scc.specs.Graphs.{IsGraph}
use Rattle.asp_scc.proofs.TurnLaws.{one_turned, reverse_graph, Turning}
use Rattle.asp_scc.proofs.two_way.turned.Goals as goal

pub loop-node-preserved : goal.loop-node-preserved
loop-node-preserved c =
    one_turned c.args.graph.now c.loop-node.rows c.turn_row.new.rows c.loop-node.node c.row.result.now c.requires.graph
    (omega (arith, c.loop-node-test.true, c.len-node-end.ensures)) c.row.ensures c.in_ok-turn_row.ensures c.loop-node.invariant

pub returns-clause-graph : goal.returns-clause-graph
returns-clause-graph c =
    let end : c.loop-node.node ≡ length c.args.graph.now = omega (arith, c.loop-node-test.false, c.len-node-end.ensures, c.loop-node.auto.node-end) in
    subst IsGraph (sym c.in_ok-table.ensures) (reverse_graph c.args.graph.now c.loop-node.rows (subst (λ (i : ℕ). Turning c.args.graph.now c.loop-node.rows i) end c.loop-node.invariant))
