use Rattle.std.proofs.Common.{sym, ◌∙◌}
use Rattle.asp_vault.specs.Seats.{view}
use Rattle.asp_worker.proofs.SeatLaws.{passes-trans, settled-passes, takes-not, takes-err}
use Rattle.asp_worker.proofs.find.take_offered.Goals as goal

pub returns-in_err-own-clause-takes : goal.returns-in_err-own-clause-takes
returns-in_err-own-clause-takes g c = takes-err (view c.take_own.new.seat) c.from_residual.result c.from_residual.ensures.0 c.in_err-own.ensures.takes

pub take_other-requires-clause-settled : goal.take_other-requires-clause-settled
take_other-requires-clause-settled g c = settled-passes (view c.args.seat.now) (view c.take_own.new.seat) c.requires.settled c.take_own.ensures.passes

pub take_other-requires-clause-free : goal.take_other-requires-clause-free
take_other-requires-clause-free g c = takes-not (view c.take_own.new.seat) c.in_ok-own.own c.in_ok-own.ensures.takes (sym c.is_some.ensures ∙ c.if-is_some.false)

pub returns-clause-passes : goal.returns-clause-passes
returns-clause-passes g c = passes-trans (view c.args.seat.now) (view c.take_own.new.seat) (view c.take_other.new.seat) c.take_own.ensures.passes c.take_other.ensures.passes
