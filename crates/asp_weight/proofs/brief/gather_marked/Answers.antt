use Rattle.std.proofs.Common.{◌+◌, arith}
use Rattle.std.proofs.lemmas.List.Sums.{sum_by-take-le}
use Rattle.asp_weight.specs.declared.item.Item.{Item}
use Rattle.asp_weight.specs.Explained.{before}
use Rattle.asp_weight.proofs.BriefLaws.{gathered_more, gathered_small}
use Rattle.asp_weight.proofs.brief.gather_marked.Goals as goal

pub overflow_add-sum : goal.overflow_add-sum
overflow_add-sum c =
    omega (
      arith,
      c.requires.fits,
      sum_by-take-le (λ (x : Item). x.weight) c.args.row.now (c.in-Some.at + 1),
      gathered_small c.args.side (before c.args.trail.now c.args.place) c.args.start c.loop-sum.sum c.loop-sum.from c.in-Some.at c.in_ok-sum.field-0
          c.args.row.now c.index-row-at.result c.in-Some.ensures.0 c.in-Some.ensures.1 c.index-row-at.is
          c.in_ok-sum.ensures.weight c.loop-sum.invariant.small,
    )

pub loop-sum-preserved : goal.loop-sum-preserved
loop-sum-preserved c = record {
  gathered = gathered_more c.args.side (before c.args.trail.now c.args.place) c.args.start c.loop-sum.sum c.loop-sum.from c.in-Some.at
      c.in_ok-sum.field-0 c.args.row.now c.index-row-at.result c.args.lits.items c.loop-sum.lits.items
      c.add.new.lits.items c.loop-sum.invariant.gathered c.in-Some.ensures.0 c.in-Some.ensures.1 c.index-row-at.is c.in_ok-sum.ensures.lits c.in_ok-sum.ensures.weight;
  small = gathered_small c.args.side (before c.args.trail.now c.args.place) c.args.start c.loop-sum.sum c.loop-sum.from c.in-Some.at
      c.in_ok-sum.field-0 c.args.row.now c.index-row-at.result c.in-Some.ensures.0 c.in-Some.ensures.1 c.index-row-at.is
      c.in_ok-sum.ensures.weight c.loop-sum.invariant.small;
  within = omega (arith, c.in-Some.ensures.1);
}
