use Rattle.std.proofs.Common.{◌++◌}
use Rattle.asp_faults.specs.Faults.{found_text, expected_text, wanted_text}
use Rattle.asp_faults.proofs.WriteLaws.{writes_then, writes_fails, writes_more}
use Rattle.asp_faults.proofs.texts.write_misfit.Goals as goal

pub returns-in_err-write_found : goal.returns-in_err-write_found
returns-in_err-write_found g c =
    let found = found_text c.args.found in
    let wanted = wanted_text c.args.wanted in
    writes_fails _ _ _ _ _ _ _ (found ++ wanted) (expected_text c.args.found) (writes_more _ _ _ _ _ found wanted c.in_err-write_found.ensures) c.from_residual.ensures.1

pub returns-in_err-write_wanted : goal.returns-in_err-write_wanted
returns-in_err-write_wanted g c =
    let found = found_text c.args.found in
    let wanted = wanted_text c.args.wanted in
    writes_fails _ _ _ _ _ _ _ (found ++ wanted) (expected_text c.args.found)
    (writes_then _ _ _ _ _ _ _ _ found wanted c.in_ok-write_found.ensures c.in_err-write_wanted.ensures)
    c.from_residual-in_err-write_wanted.ensures.1

pub returns : goal.returns
returns g c =
    let found = found_text c.args.found in
    let wanted = wanted_text c.args.wanted in
    writes_then _ _ _ _ _ _ _ _ (found ++ wanted) (expected_text c.args.found)
    (writes_then _ _ _ _ _ _ _ _ found wanted c.in_ok-write_found.ensures c.in_ok-write_wanted.ensures) c.write_expected.ensures
