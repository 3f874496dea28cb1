use Rattle.std.proofs.Common.{ap, ◌∙◌, arith}
use Rattle.asp_scc.proofs.SearchLaws.{first_round, next_round, finds}
use Rattle.asp_scc.specs.Searches.{mark}
use Rattle.asp_scc.proofs.search.search.Goals as goal

pub loop-next-init : goal.loop-next-init
loop-next-init c =
    first_round c.args.graph.now c.args.old c.args.new c.args.from c.args.states.now (c.mark.new.states, c.mark.new.found.items) c.requires.differ
    (omega (arith, c.requires.size, c.requires.from)) c.requires.begins (c.in_ok-mark.ensures ∙ ap (λ xs. mark c.args.old c.args.new (c.args.states.now, xs) c.args.from) c.clear.ensures.items)

pub loop-next-preserved : goal.loop-next-preserved
loop-next-preserved c =
    next_round c.args.graph.now c.args.old c.args.new c.args.from c.loop-next.next c.index-node.result.now c.args.states.now c.loop-next.states
    c.loop-next.found.items c.row.result.now (c.mark_all.new.states, c.mark_all.new.found.items) c.requires.differ c.requires.size
    c.requires.graph
    (omega (arith, c.loop-next-test.true, c.len.ensures)) c.index-node.ensures c.row.ensures c.loop-next.invariant c.in_ok-mark_all.ensures

pub returns : goal.returns
returns c =
    let h = c.loop-next.invariant in
    finds c.args.graph.now c.args.old c.args.new c.args.from c.loop-next.next c.args.states.now c.loop-next.states c.loop-next.found.items h.searching
    h.followed (omega (arith, c.loop-next-test.false, c.len.ensures)) h.begun
