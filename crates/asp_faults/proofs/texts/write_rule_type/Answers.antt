use Rattle.asp_faults.specs.declared.texts.Wanted.TheVariants.{RuleType}
use Rattle.asp_faults.specs.Faults.{misfit, other_format, wanted_text}
use Rattle.asp_faults.proofs.WriteLaws.{writes_then, writes_fails}
use Rattle.asp_faults.proofs.texts.write_rule_type.Goals as goal

pub returns-in_err-write_misfit : goal.returns-in_err-write_misfit
returns-in_err-write_misfit g c = writes_fails _ _ _ _ _ _ _ (misfit c.args.found (wanted_text RuleType)) (other_format c.args.found) c.in_err-write_misfit.ensures c.from_residual.ensures.1

pub returns : goal.returns
returns g c = writes_then _ _ _ _ _ _ _ _ (misfit c.args.found (wanted_text RuleType)) (other_format c.args.found) c.in_ok-write_misfit.ensures c.write_other_format.ensures
