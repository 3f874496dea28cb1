use Rattle.std.proofs.Common.{sym, [], ◌∷◌}
use Rattle.asp_checker.proofs.LookLaws.{with_held, with_failed, with_open, with_same, with_second, fixpoint_more}
use Rattle.asp_checker.proofs.nogoods.with.Goals as goal

pub returns-then-holds : goal.returns-then-holds
returns-then-holds c = with_held c.args.values.now c.args.lit c.args.look (sym c.if-holds.ensures)

pub returns-then-holds-2 : goal.returns-then-holds-2
returns-then-holds-2 c = λ n h. with_failed c.args.values.now c.args.lit (sym (rw c.complement.ensures at c.if-holds-2.ensures)) n

pub returns-then-eq : goal.returns-then-eq
returns-then-eq c = λ n h. with_same c.args.values.now c.in-Unit.open c.args.lit (sym c.if-eq.ensures) n (rw c.in-Unit.is at h)

pub returns-in-Fixpoint : goal.returns-in-Fixpoint
returns-in-Fixpoint c = λ n h. fixpoint_more c.args.values.now n (c.args.lit ∷ []) (rw c.in-Fixpoint.is at h)

pub returns-in-Violated : goal.returns-in-Violated
returns-in-Violated c = λ n h. with_open c.args.values.now c.args.lit (sym c.if-holds.ensures) (sym (rw c.complement.ensures at c.if-holds-2.ensures)) n (rw c.in-Violated.is at h)

pub returns-else-eq : goal.returns-else-eq
returns-else-eq c = λ n h. with_second c.args.values.now c.in-Unit.open c.args.lit (sym c.if-holds.ensures) (sym c.if-eq.ensures) n (rw c.in-Unit.is at h)
