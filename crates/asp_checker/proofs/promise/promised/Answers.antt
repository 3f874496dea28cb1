use Rattle.std.proofs.Common.{◌-◌, drop, length, arith}
use Rattle.asp_rows.specs.Listed.{IsRowOf}
use Rattle.asp_checker.proofs.PromiseLaws.{each_dropped, each_taken, rows_whole}
use Rattle.asp_checker.proofs.promise.promised.Goals as goal

pub returns-else-count-eq0-clause-sets : goal.returns-else-count-eq0-clause-sets
returns-else-count-eq0-clause-sets c =
    let n = length c.args.found.now - 1 in
    rw c.in-Best.is (rows_whole c.args.found.now n (length c.args.found.now - n) (omega (arith, c.if-count-eq0.false)) (omega (arith, c.if-count-eq0.false)))

pub returns-else-count-eq0-clause-rows : goal.returns-else-count-eq0-clause-rows
returns-else-count-eq0-clause-rows c = λ atoms all.
    let found = c.args.found.now in
    let n = length found - 1 in
    each_taken (IsRowOf atoms) (length found - n) (drop n found) (each_dropped (IsRowOf atoms) n found all)
