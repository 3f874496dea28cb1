use Rattle.std.proofs.Common.{◌++◌, codes}
use Rattle.asp_cli.specs.Names.{takes_of, text_of}
use Rattle.asp_faults.proofs.WriteLaws.{writes_then, writes_fails}
use Rattle.asp_top.proofs.usage.write_value.Goals as goal

pub returns-in_err-write_takes : goal.returns-in_err-write_takes
returns-in_err-write_takes g c = writes_fails _ _ _ _ _ _ _ (text_of c.args.name ++ codes " takes " ++ takes_of c.args.name)
    (codes ", not " ++ c.args.value.now) c.in_err-write_takes.ensures c.from_residual.ensures.1

pub returns : goal.returns
returns g c = writes_then _ _ _ _ _ _ _ _ (text_of c.args.name ++ codes " takes " ++ takes_of c.args.name) (codes ", not " ++ c.args.value.now)
    c.in_ok-write_takes.ensures (rw c.as_bytes.ensures.value at c.write_both.ensures)
