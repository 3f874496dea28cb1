use Rattle.asp_top.specs.Notes.{limit_text, optima_text}
use Rattle.asp_faults.proofs.WriteLaws.{writes_then, writes_fails}
use Rattle.asp_top.proofs.notes.write_asked.Goals as goal

pub returns-in_err-write_limit : goal.returns-in_err-write_limit
returns-in_err-write_limit g c = writes_fails _ _ _ _ _ _ _ (limit_text c.args.options.now c.args.mode) (optima_text c.args.options.now c.args.mode)
    c.in_err-write_limit.ensures c.from_residual.ensures.1

pub returns : goal.returns
returns g c = writes_then _ _ _ _ _ _ _ _ (limit_text c.args.options.now c.args.mode) (optima_text c.args.options.now c.args.mode) c.in_ok-write_limit.ensures c.write_optima.ensures
