use Rattle.std.proofs.Common.{◌∙◌, ◌++◌, List, ℕ, false, true, drop, ap, sym, arith}
use Rattle.asp_buffer.proofs.OutLaws.{midway_start, midway_more, midway_fails}
use Rattle.asp_print.specs.Shown.{pieces}
use Rattle.asp_print.proofs.RowLaws.{run_turn}
use Rattle.asp_print.proofs.answers.put_runs.Goals as goal

pub loop-from-init : goal.loop-from-init
loop-from-init g c = record {
  text = midway_start _ _ _ (c.first_shown-from.ensures.passes false);
  within = c.first_shown-from.ensures.within;
  shown = c.first_shown-from.ensures.shown;
}

pub returns-in_err-put : goal.returns-in_err-put
returns-in_err-put g c =
    let inv = c.loop-from.invariant in
    let e = c.run_end-to.ensures in
    midway_fails _ _ _ _ _ _ _ _ _ _ inv.text c.in_err-put.ensures
    (run_turn c.args.table.now.between c.args.row.now.set c.args.outputs.now c.loop-from.any c.loop-from.from c.run_end-to.result
    (inv.shown (omega (arith, c.loop-from-test.true, c.len.ensures))) e.more e.within e.run
    ∙ ap (λ (t : List ℕ). t ++ pieces c.args.table.now.between c.args.row.now.set true (drop c.run_end-to.result c.args.outputs.now)) (sym c.texts.ensures)) c.from_residual.ensures.1

pub loop-from-preserved : goal.loop-from-preserved
loop-from-preserved g c =
    let inv = c.loop-from.invariant in
    let e = c.run_end-to.ensures in
    let next = c.first_shown-from-in-loop-from.ensures in
    record {
      text = midway_more _ _ _ _ _ _ _ _ inv.text c.in_ok-put.ensures
          (run_turn c.args.table.now.between c.args.row.now.set c.args.outputs.now c.loop-from.any c.loop-from.from c.run_end-to.result
          (inv.shown (omega (arith, c.loop-from-test.true, c.len.ensures))) e.more e.within e.run
          ∙ ap (λ (t : List ℕ). t ++ pieces c.args.table.now.between c.args.row.now.set true (drop c.run_end-to.result c.args.outputs.now)) (sym c.texts.ensures)
          ∙ ap (λ (t : List ℕ). c.texts.result.now ++ t) (sym (next.passes true)));
      within = next.within;
      shown = next.shown;
    }

pub loop-from-smaller : goal.loop-from-smaller
loop-from-smaller g c = omega (arith, c.loop-from-test.true, c.run_end-to.ensures.more, c.first_shown-from-in-loop-from.ensures.later, c.first_shown-from-in-loop-from.ensures.within)
