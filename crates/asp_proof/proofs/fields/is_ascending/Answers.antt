use Rattle.std.proofs.Common.{◌+◌, arith, subst, drop}
use Rattle.std.proofs.lemmas.List.{drop_all}
use Rattle.asp_buffer.proofs.OutLaws.{drop_turn_or}
use Rattle.asp_proof.proofs.FieldLaws.{IsAhead, ahead_at_first, ahead_more, ahead_stops}
use Rattle.asp_proof.proofs.fields.is_ascending.Goals as goal

pub loop-a-init : goal.loop-a-init
loop-a-init c = ahead_at_first c.args.atoms.now c.requires

pub loop-a-preserved : goal.loop-a-preserved
loop-a-preserved c = ahead_more c.args.atoms.now c.loop-a.last _ (drop (c.loop-a.a-index + 1) c.args.atoms.now) (omega arith)
    (subst (IsAhead c.args.atoms.now c.loop-a.last) (drop_turn_or c.args.atoms.now c.loop-a.a-index 0 (omega arith)) c.loop-a.invariant)

pub returns-then-a-last : goal.returns-then-a-last
returns-then-a-last c = ahead_stops c.args.atoms.now c.loop-a.last _ (drop (c.loop-a.a-index + 1) c.args.atoms.now) (omega arith)
    (subst (IsAhead c.args.atoms.now c.loop-a.last) (drop_turn_or c.args.atoms.now c.loop-a.a-index 0 (omega arith)) c.loop-a.invariant)

pub returns : goal.returns
returns c = c.loop-a.invariant.to (rw (drop_all c.loop-a.a-index c.args.atoms.now c.loop-a-test.false) (tt, tt))
