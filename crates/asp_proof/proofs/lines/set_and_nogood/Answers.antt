use Rattle.std.proofs.Common.{length, ap}
use Rattle.asp_proof.specs.Texts.{atoms_fields, literals_fields}
use Rattle.asp_proof.specs.Grammar.{IsNogood, IsLoopSet}
use Rattle.asp_proof.proofs.FieldLaws.{clear_loop_set, clear_nogood, no_first, no_second, both_at, no_loop_set, empty_loop_set, loop_set_at}
use Rattle.asp_proof.proofs.LineLaws.{is_nil, some_from}
use Rattle.asp_proof.proofs.lines.set_and_nogood.Goals as goal

pub returns-in_default : goal.returns-in_default
returns-in_default c = no_first IsLoopSet IsNogood atoms_fields literals_fields c.args.line.now clear_nogood (no_loop_set c.args.line.now (rw c.in_default.is at c.in_ok-set.ensures))

pub returns-then-is_empty : goal.returns-then-is_empty
returns-then-is_empty c = no_first IsLoopSet IsNogood atoms_fields literals_fields c.args.line.now clear_nogood
    (empty_loop_set c.args.line.now c.in-Some.set c.in-Some.rest.now (rw c.in-Some.is at c.in_ok-set.ensures)
    (ap length (rw c.as_slice.ensures.value at (is_nil c.is_empty.result c.as_slice.result.now c.is_empty.ensures c.if-is_empty.true))))

pub returns-in-Some-2 : goal.returns-in-Some-2
returns-in-Some-2 c = both_at IsLoopSet IsNogood atoms_fields literals_fields c.args.line.now c.in-Some.set c.in-Some-2.nogood.items c.in-Some.rest.now c.in-Some-2.rest.now
    (loop_set_at c.args.line.now c.in-Some.set c.in-Some.rest.now (rw c.in-Some.is at c.in_ok-set.ensures)
    (rw c.as_slice.ensures.value at (some_from c.is_empty.result c.as_slice.result.now c.is_empty.ensures c.if-is_empty.false)))
    (rw c.in-Some-2.is at c.in_ok-nogood.ensures)

pub returns : goal.returns
returns c = no_second IsLoopSet IsNogood atoms_fields literals_fields c.args.line.now c.in-Some.set c.in-Some.rest.now clear_loop_set clear_nogood
    (loop_set_at c.args.line.now c.in-Some.set c.in-Some.rest.now (rw c.in-Some.is at c.in_ok-set.ensures)
    (rw c.as_slice.ensures.value at (some_from c.is_empty.result c.as_slice.result.now c.is_empty.ensures c.if-is_empty.false)))
    (rw c.in-None.is at c.in_ok-nogood.ensures)
