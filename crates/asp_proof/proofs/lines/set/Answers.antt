use Rattle.asp_proof.specs.Texts.{atoms_fields}
use Rattle.asp_proof.specs.Grammar.{IsSet}
use Rattle.asp_proof.proofs.FieldLaws.{clear_set}
use Rattle.asp_proof.proofs.LineLaws.{none_whole, none_alone, whole_at, not_nil, is_nil}
use Rattle.asp_proof.proofs.lines.set.Goals as goal

pub returns-in_default : goal.returns-in_default
returns-in_default c = none_whole IsSet atoms_fields c.args.line.now (rw c.in_default.is at c.in_ok-set.ensures)

pub returns-then-not-is_empty : goal.returns-then-not-is_empty
returns-then-not-is_empty c = none_alone IsSet atoms_fields c.args.line.now c.in-Some.set c.in-Some.rest.now clear_set
    (not_nil c.is_empty.result c.in-Some.rest.now c.is_empty.ensures c.if-not-is_empty.true) (rw c.in-Some.is at c.in_ok-set.ensures)

pub returns : goal.returns
returns c = (whole_at IsSet atoms_fields c.args.line.now c.in-Some.set c.in-Some.rest.now
    (is_nil c.is_empty.result c.in-Some.rest.now c.is_empty.ensures c.if-not-is_empty.false) (rw c.in-Some.is at c.in_ok-set.ensures))
