use Rattle.asp_proof.specs.Texts.{natural_field, two_fields, atoms_fields, literals_fields, loop_fields}
use Rattle.asp_proof.specs.Grammar.{Both, IsNogood, IsLoopSet, IsLoop}
use Rattle.asp_proof.specs.Fields.{IsCount}
use Rattle.asp_proof.proofs.FieldLaws.{clear_count, clear_set_and_nogood, clear_loop, no_first, no_second, both_at}
use Rattle.asp_proof.proofs.LineLaws.{none_whole, none_alone, whole_at, is_nil, not_nil, loop_whole}
use Rattle.asp_proof.proofs.lines.loop_line.Goals as goal

pub returns-in_default : goal.returns-in_default
returns-in_default c = none_whole IsLoop loop_fields c.args.line.now
    (no_first IsCount (Both IsLoopSet IsNogood) natural_field (two_fields atoms_fields literals_fields) c.args.line.now clear_set_and_nogood
    c.in_default.ensures)

pub returns-in_default-2 : goal.returns-in_default-2
returns-in_default-2 c = none_whole IsLoop loop_fields c.args.line.now
    (no_second IsCount (Both IsLoopSet IsNogood) natural_field (two_fields atoms_fields literals_fields) c.args.line.now c.in-Some.place
    c.in-Some.rest.now clear_count clear_set_and_nogood c.in-Some.ensures (rw c.in_default-2.is at c.in_ok-set.ensures))

pub returns-then-not-is_empty : goal.returns-then-not-is_empty
returns-then-not-is_empty c =
    none_alone IsLoop loop_fields c.args.line.now (c.in-Some.place, (c.in-Some-2.set, c.in-Some-2.nogood.items)) c.in-Some-2.rest.now clear_loop
    (not_nil c.is_empty.result c.in-Some-2.rest.now c.is_empty.ensures c.if-not-is_empty.true)
    (both_at IsCount (Both IsLoopSet IsNogood) natural_field (two_fields atoms_fields literals_fields) c.args.line.now c.in-Some.place
    (c.in-Some-2.set, c.in-Some-2.nogood.items) c.in-Some.rest.now c.in-Some-2.rest.now c.in-Some.ensures
    (rw c.in-Some-2.is at c.in_ok-set.ensures))

pub returns : goal.returns
returns c = rw c.from_vec.ensures (loop_whole c.args.line.now c.in-Some.place c.in-Some-2.set c.in-Some-2.nogood.items
    (whole_at IsLoop loop_fields c.args.line.now (c.in-Some.place, (c.in-Some-2.set, c.in-Some-2.nogood.items)) c.in-Some-2.rest.now
    (is_nil c.is_empty.result c.in-Some-2.rest.now c.is_empty.ensures c.if-not-is_empty.false)
    (both_at IsCount (Both IsLoopSet IsNogood) natural_field (two_fields atoms_fields literals_fields) c.args.line.now c.in-Some.place
    (c.in-Some-2.set, c.in-Some-2.nogood.items) c.in-Some.rest.now c.in-Some-2.rest.now c.in-Some.ensures
    (rw c.in-Some-2.is at c.in_ok-set.ensures))))
