use Rattle.std.specs.Prelude.{None}
use Rattle.std.specs.Option.{option_copied}
use Rattle.asp_model.specs.Texts.{answers_from}
use Rattle.asp_top.specs.Progress.{line_of}
use Rattle.asp_faults.proofs.WriteLaws.{writes_fails, writes_then}
use Rattle.asp_top.proofs.better.write_both.Goals as goal

pub returns-in_err-write_line : goal.returns-in_err-write_line
returns-in_err-write_line g c =
    writes_fails _ _ _ _ _ _ _ (line_of (record { counts = c.args.counts.now; best = option_copied c.args.cost; shown = None }))
    (answers_from c.args.program.now c.args.counts.now.answers c.args.row.now.sets) c.in_err-write_line.ensures c.from_residual.ensures.1

pub returns : goal.returns
returns g c =
    writes_then _ _ _ _ _ _ _ _ (line_of (record { counts = c.args.counts.now; best = option_copied c.args.cost; shown = None }))
    (answers_from c.args.program.now c.args.counts.now.answers c.args.row.now.sets) c.in_ok-write_line.ensures c.write_shown.ensures
