use Rattle.std.proofs.Common.{◌∙◌, arith}
use Rattle.asp_search.proofs.BlockLaws.{slots_twice}
use Rattle.asp_search.proofs.blocking.drop_all.Goals as goal

pub loop-preserved : goal.loop-preserved
loop-preserved g c =
    let i = c.loop.invariant in
    let e = c.drop_last.ensures in
    record {
      blocking_stand = e.blocking;
      same = slots_twice c.args.state.now c.loop.state c.drop_last.new.state i.same e.same;
      drops = λ newest id first same d. e.drops newest id first same (i.drops newest id first same d);
      spares = λ id first d. e.spares id first (i.spares id first d);
      len = omega (arith, e.len, i.len);
      room = e.room ∙ i.room;
    }

pub returns-clause-drops : goal.returns-clause-drops
returns-clause-drops g c = λ newest id first same d. c.drop_last.ensures.drops newest id first same (c.loop.invariant.drops newest id first same d)

pub returns-clause-spares : goal.returns-clause-spares
returns-clause-spares g c = λ id first d. c.drop_last.ensures.spares id first (c.loop.invariant.spares id first d)
