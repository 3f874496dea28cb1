use Rattle.std.proofs.Common.{List, ℕ, ◌++◌, codes}
use Rattle.asp_faults.proofs.WriteLaws.{writes_then, writes_fails, writes_more}
use Rattle.asp_faults.proofs.texts.write_range.Goals as goal

abbrev middle : List ℕ → List ℕ
middle low = codes " (" ++ low ++ codes " to "

abbrev last : List ℕ → List ℕ
last high = high ++ codes ")"

pub returns-in_err-write : goal.returns-in_err-write
returns-in_err-write g c =
    let noun = c.args.noun.now in
    writes_fails _ _ _ _ _ _ _ (noun ++ middle c.args.low.now) (last c.args.high.now) (writes_more _ _ _ _ _ noun (middle c.args.low.now) c.in_err-write.ensures) c.from_residual.ensures.1

pub returns-in_err-write_three : goal.returns-in_err-write_three
returns-in_err-write_three g c =
    let noun = c.args.noun.now in
    writes_fails _ _ _ _ _ _ _ (noun ++ middle c.args.low.now) (last c.args.high.now)
    (writes_then _ _ _ _ _ _ _ _ noun (middle c.args.low.now) c.in_ok-write.ensures c.in_err-write_three.ensures)
    c.from_residual-in_err-write_three.ensures.1

pub returns : goal.returns
returns g c =
    let noun = c.args.noun.now in
    writes_then _ _ _ _ _ _ _ _ (noun ++ middle c.args.low.now) (last c.args.high.now)
    (writes_then _ _ _ _ _ _ _ _ noun (middle c.args.low.now) c.in_ok-write.ensures c.in_ok-write_three.ensures) c.write_both.ensures
