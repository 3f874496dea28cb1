use Rattle.std.proofs.Common.{◌∙◌, ◌<◌, length, take, sym, subst}
use Rattle.std.proofs.lemmas.List.Elements.{All-from_recursion}
use Rattle.asp_checker.specs.Sweeps.{AreInRange}
use Rattle.asp_checker.proofs.SweepLaws.{row_range, swept_more, swept_conflict, swept_whole, same_size}
use Rattle.asp_checker.proofs.sweep.sweep.Goals as goal

pub loop-row-preserved : goal.loop-row-preserved
loop-row-preserved c =
    let range = subst (λ m. AreInRange m c.args.rows.now) (sym c.loop-row.invariant.size) c.requires in
    let seen = rw c.as_slice.ensures.value at c.visit_one-visit.ensures in
    record {
      size = same_size c.loop-row.values c.visit_one-visit.new.values c.row-item.result c.visit_one-visit.result seen ∙ c.loop-row.invariant.size;
      so_far = rw c.later-came_to.ensures
          (swept_more c.args.values.now c.loop-row.values c.visit_one-visit.new.values c.args.rows.now c.loop-row.row-index c.row-item.result
          c.loop-row.came_to c.visit_one-visit.result c.loop-row-test.true c.row-item.is range c.in_default.not-Conflict
          c.loop-row.invariant.so_far seen);
    }

pub returns-in-Conflict : goal.returns-in-Conflict
returns-in-Conflict c =
    swept_conflict c.args.values.now c.loop-row.values c.visit_one-visit.new.values c.args.rows.now (take c.loop-row.row-index c.args.rows.now)
    c.loop-row.row-index c.row-item.result c.loop-row.came_to c.loop-row-test.true c.row-item.is c.loop-row.invariant.so_far
    (rw c.as_slice.ensures.value at c.in-Conflict.ensures)

pub visit_one-visit-requires : goal.visit_one-visit-requires
visit_one-visit-requires c =
    let range = subst (λ m. AreInRange m c.args.rows.now) (sym c.loop-row.invariant.size) c.requires in
    rw c.as_slice.ensures.value (All-from_recursion (λ l. l.var < length c.loop-row.values) c.row-item.result
    (row_range (length c.loop-row.values) c.args.rows.now c.loop-row.row-index c.row-item.result c.loop-row-test.true c.row-item.is range))

pub returns : goal.returns
returns c = swept_whole c.args.values.now c.loop-row.values c.args.rows.now c.loop-row.row-index c.loop-row.came_to c.loop-row-test.false c.loop-row.invariant.so_far
