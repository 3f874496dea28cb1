use Rattle.std.proofs.Common.{◌∙◌, sym, Bool}
use Rattle.asp_print.proofs.RowLaws.{skipped}
use Rattle.asp_print.proofs.outputs.OutputTable.first_shown.Goals as goal

pub loop-i-preserved : goal.loop-i-preserved
loop-i-preserved c = λ (any : Bool). skipped c.args.self.now.between c.args.row.now.set any c.args.outputs.now c.loop-i.i (sym c.if-shows.false ∙ c.shows.ensures) ∙ c.loop-i.invariant any
