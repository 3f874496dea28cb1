use Rattle.std.proofs.Common.{◌∙◌, sym, arith}
use Rattle.asp_print.proofs.RowLaws.{run_begins, run_more}
use Rattle.asp_print.proofs.outputs.OutputTable.run_end.Goals as goal

pub loop-i-init : goal.loop-i-init
loop-i-init c = record { run = run_begins c.args.self.now.between c.args.row.now.set c.args.outputs.now c.args.from c.requires.shown; more = omega arith }

pub loop-i-preserved : goal.loop-i-preserved
loop-i-preserved c = record {
  run = run_more c.args.self.now.between c.args.row.now.set c.args.outputs.now c.args.from c.loop-i.i (omega (arith, c.loop-i.invariant.more))
      (sym c.if-not-shows.false ∙ c.shows.ensures) c.loop-i.invariant.run;
  more = omega (arith, c.loop-i.invariant.more);
}
