use Rattle.std.proofs.Common.{take, arith}
use Rattle.asp_trail.proofs.HeldLaws.{length_assigned}
use Rattle.asp_weight.specs.Explained.{before}
use Rattle.asp_weight.proofs.BriefLaws.{brief_item, weight_read, weaker}
use Rattle.asp_weight.proofs.brief.literals.Goals as goal

pub gather_marked-requires-clause-within : goal.gather_marked-requires-clause-within
gather_marked-requires-clause-within c k d h =
    omega (arith, c.requires.ready.within k d h, length_assigned c.args.trail.now.vars (take c.args.place c.args.trail.now.entries))

pub returns : goal.returns
returns c =
    weaker _ _ c.gather_marked.result c.gather_marked.ensures (λ n e.
    brief_item (before c.args.trail.now c.args.place) c.args.shape.now c.args.row.now c.args.lit c.held_before-side.result c.in-Some.at c.need.result
    c.index-row-at.result.weight c.complement.result c.new-head.result c.in_ok-lits.lits.items n.items
    (omega arith) (weight_read c.args.row.now c.in-Some.at c.index-row-at.result (omega arith) c.index-row-at.is) c.new-head.ensures
    c.complement.ensures c.need.ensures c.in_ok-lits.ensures (c.is_by.ensures c.if-not-is_by.false) e)
