use Rattle.asp_top.specs.Notes.{counts_if, idle_of}
use Rattle.asp_faults.proofs.WriteLaws.{writes_then, writes_fails}
use Rattle.asp_top.proofs.notes.write_later.Goals as goal

pub returns-in_err-write_idle_of : goal.returns-in_err-write_idle_of
returns-in_err-write_idle_of g c = writes_fails _ _ _ _ _ _ _ (idle_of c.args.options.now c.args.outcome.now.report)
    (counts_if c.args.options.now.stats c.args.tally.now c.args.outcome.now) c.in_err-write_idle_of.ensures c.from_residual.ensures.1

pub returns : goal.returns
returns g c = writes_then _ _ _ _ _ _ _ _ (idle_of c.args.options.now c.args.outcome.now.report)
    (counts_if c.args.options.now.stats c.args.tally.now c.args.outcome.now) c.in_ok-write_idle_of.ensures c.write_counts_if.ensures
