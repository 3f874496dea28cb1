use Rattle.std.proofs.Common.{◌++◌, codes}
use Rattle.asp_cli.specs.Names.{text_of}
use Rattle.asp_faults.proofs.WriteLaws.{writes_then, writes_fails}
use Rattle.asp_top.proofs.usage.write_rivals.Goals as goal

pub returns-in_err-write_pair : goal.returns-in_err-write_pair
returns-in_err-write_pair g c = writes_fails _ _ _ _ _ _ _ (text_of c.args.first ++ codes " and " ++ text_of c.args.second)
    (codes " exclude each other") c.in_err-write_pair.ensures c.from_residual.ensures.1

pub returns : goal.returns
returns g c = writes_then _ _ _ _ _ _ _ _ (text_of c.args.first ++ codes " and " ++ text_of c.args.second) (codes " exclude each other") c.in_ok-write_pair.ensures c.write.ensures
