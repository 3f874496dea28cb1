use Rattle.std.proofs.Common.{◌++◌, codes}
use Rattle.asp_top.specs.Usage.{advice_text}
use Rattle.asp_faults.proofs.WriteLaws.{writes_then, writes_fails}
use Rattle.asp_top.proofs.usage.write_unknown.Goals as goal

pub returns-in_err-write_both : goal.returns-in_err-write_both
returns-in_err-write_both g c = writes_fails _ _ _ _ _ _ _ (codes "unknown option " ++ c.args.word.now) (advice_text c.args.word.now)
    (rw c.as_bytes.ensures.value at c.in_err-write_both.ensures) c.from_residual.ensures.1

pub returns : goal.returns
returns g c = writes_then _ _ _ _ _ _ _ _ (codes "unknown option " ++ c.args.word.now) (advice_text c.args.word.now) (rw c.as_bytes.ensures.value at c.in_ok-write_both.ensures) c.write_advice.ensures
