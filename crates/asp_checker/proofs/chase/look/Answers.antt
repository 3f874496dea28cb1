use Rattle.std.proofs.Common.{◌<◌, length, arith, subst}
use Rattle.std.proofs.lemmas.List.Elements.{All-from_recursion}
use Rattle.asp_checker.specs.Looks.{IsSeen}
use Rattle.asp_checker.specs.Sweeps.{IsNogoodOf}
use Rattle.asp_checker.proofs.SweepLaws.{row_of, row_range}
use Rattle.asp_checker.proofs.LookLaws.{unit_range}
use Rattle.asp_checker.proofs.CloseLaws.{rows_range}
use Rattle.asp_checker.proofs.chase.look.Goals as goal

pub look_at-requires : goal.look_at-requires
look_at-requires c =
    let n = length c.args.values.now in
    rw c.as_slice.ensures.value
    (All-from_recursion (λ l. l.var < n) c.index-rows-place.result (row_range n c.args.rows.now c.args.place c.index-rows-place.result (omega arith) c.index-rows-place.is
    (rows_range c.args.compiled.now c.args.rows.now n c.requires.size c.requires.of)))

pub set_implied-requires-clause-within : goal.set_implied-requires-clause-within
set_implied-requires-clause-within c = λ l is.
    let n = length c.args.values.now in
    unit_range c.args.values.now c.index-rows-place.result l
    (All-from_recursion (λ l. l.var < n) c.index-rows-place.result (row_range n c.args.rows.now c.args.place c.index-rows-place.result (omega arith) c.index-rows-place.is
    (rows_range c.args.compiled.now c.args.rows.now n c.requires.size c.requires.of)))
    (subst (IsSeen c.args.values.now c.index-rows-place.result) is (rw c.as_slice.ensures.value at c.look_at.ensures))

pub returns : goal.returns
returns c = λ k known.
    c.set_implied.ensures k c.index-rows-place.result
    (row_of (IsNogoodOf c.args.compiled.now k) c.args.rows.now c.args.place c.index-rows-place.result (omega arith) c.index-rows-place.is known)
    (rw c.as_slice.ensures.value at c.look_at.ensures)
