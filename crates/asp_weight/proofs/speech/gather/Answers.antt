use Rattle.std.proofs.Common.{◌+◌, arith}
use Rattle.std.proofs.lemmas.List.Sums.{sum_by-take-le}
use Rattle.asp_weight.specs.declared.item.Item.{Item}
use Rattle.asp_weight.specs.Explained.{before}
use Rattle.asp_weight.proofs.GatherLaws.{gather_step, gather_small}
use Rattle.asp_weight.proofs.speech.gather.Goals as goal

pub overflow_add-sum : goal.overflow_add-sum
overflow_add-sum c =
    let i = c.loop-item.item-index in
    omega (
      arith,
      c.requires.fits,
      sum_by-take-le (λ (x : Item). x.weight) c.args.row.now (i + 1),
      gather_small c.args.side (before c.args.trail.now c.args.place) c.args.start c.loop-item.sum c.args.row.now i c.in_ok-sum.field-0
          c.item-item.result c.loop-item-test.true c.item-item.is c.in_ok-sum.ensures.weight c.loop-item.invariant.small,
    )

pub loop-item-preserved : goal.loop-item-preserved
loop-item-preserved c =
    let i = c.loop-item.item-index in
    record {
      whole = gather_step c.args.side (before c.args.trail.now c.args.place) c.args.need c.loop-item.sum c.args.row.now i c.in_ok-sum.field-0
          c.item-item.result c.loop-item.lits.items c.add.new.lits.items _
          c.if-need-sum.false c.loop-item-test.true c.item-item.is c.loop-item.invariant.whole c.in_ok-sum.ensures.lits c.in_ok-sum.ensures.weight;
      small = gather_small c.args.side (before c.args.trail.now c.args.place) c.args.start c.loop-item.sum c.args.row.now i c.in_ok-sum.field-0
          c.item-item.result c.loop-item-test.true c.item-item.is c.in_ok-sum.ensures.weight c.loop-item.invariant.small;
    }
