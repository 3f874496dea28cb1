use Rattle.std.proofs.Common.{codes}
use Rattle.asp_top.specs.Usage.{hint_text}
use Rattle.asp_faults.proofs.WriteLaws.{writes_then, writes_fails}
use Rattle.asp_top.proofs.usage.write_advice.Goals as goal

pub returns-in_err-write_hint : goal.returns-in_err-write_hint
returns-in_err-write_hint g c = writes_fails _ _ _ _ _ _ _ (hint_text c.args.word.now) (codes " (see --help)") c.in_err-write_hint.ensures c.from_residual.ensures.1

pub returns : goal.returns
returns g c = writes_then _ _ _ _ _ _ _ _ (hint_text c.args.word.now) (codes " (see --help)") c.in_ok-write_hint.ensures c.write.ensures
