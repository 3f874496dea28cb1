use Rattle.std.proofs.Common.{◌++◌, codes}
use Rattle.asp_cli.specs.Given.{fault_seen}
use Rattle.asp_top.specs.Usage.{misuse_text, usage_text}
use Rattle.asp_faults.proofs.WriteLaws.{writes_then, writes_fails}
use Rattle.asp_top.proofs.usage.write_misuse.Goals as goal

pub returns-in_err-write_named : goal.returns-in_err-write_named
returns-in_err-write_named g c = writes_fails _ _ _ _ _ _ _ (codes "aspenum: " ++ misuse_text (fault_seen c.args.fault.now)) usage_text c.in_err-write_named.ensures c.from_residual.ensures.1

pub returns : goal.returns
returns g c = writes_then _ _ _ _ _ _ _ _ (codes "aspenum: " ++ misuse_text (fault_seen c.args.fault.now)) usage_text c.in_ok-write_named.ensures c.write_usage.ensures
