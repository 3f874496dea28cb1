use Rattle.asp_proof.proofs.FieldLaws.{no_set, no_order, set_at}
use Rattle.asp_proof.proofs.fields.atoms.Goals as goal

pub returns-in_default : goal.returns-in_default
returns-in_default c = no_set c.args.line.now (rw c.in_default.is at c.in_ok-atoms.ensures)

pub is_ascending-requires : goal.is_ascending-requires
is_ascending-requires c = let at = rw c.in-Some.is at c.in_ok-atoms.ensures in rw c.deref.ensures.value at.is.each

pub returns-then-not-is_ascending : goal.returns-then-not-is_ascending
returns-then-not-is_ascending c = no_order c.args.line.now c.in-Some.atoms.items c.in-Some.rest.now (rw c.in-Some.is at c.in_ok-atoms.ensures)
    (rw c.deref.ensures.value at c.if-not-is_ascending.ensures)

pub from_ascending-requires : goal.from_ascending-requires
from_ascending-requires c = rw c.deref.ensures.value at c.if-not-is_ascending.ensures

pub returns : goal.returns
returns c = rw c.from_ascending.ensures
    (set_at c.args.line.now c.in-Some.atoms.items c.in-Some.rest.now (rw c.in-Some.is at c.in_ok-atoms.ensures)
    (rw c.deref.ensures.value at c.if-not-is_ascending.ensures))
