use Rattle.std.proofs.Common.{refl, sym, ◌∙◌}
use Rattle.asp_vault.specs.Seats.{view}
use Rattle.asp_worker.proofs.SeatLaws.{passes-self, passes-trans, settled-passes, takes-not, takes-err}
use Rattle.asp_worker.proofs.find.take_other.Goals as goal

pub loop-lane-init : goal.loop-lane-init
loop-lane-init g c = (refl, passes-self (view c.args.seat.now) c.requires.settled, c.requires.free, c.requires.pool)

pub take_from-requires-clause-settled : goal.take_from-requires-clause-settled
take_from-requires-clause-settled g c = settled-passes (view c.args.seat.now) (view c.loop-lane.seat) c.requires.settled c.loop-lane.invariant.1

pub loop-lane-preserved : goal.loop-lane-preserved
loop-lane-preserved g c = (
  c.take_from.ensures.of ∙ c.loop-lane.invariant.0,
  passes-trans (view c.args.seat.now) (view c.loop-lane.seat) (view c.take_from.new.seat) c.loop-lane.invariant.1 c.take_from.ensures.passes,
  takes-not (view c.take_from.new.seat) c.in_ok-taken.taken c.in_ok-taken.ensures.takes (sym c.is_some.ensures ∙ c.if-is_some.false),
  c.take_from.ensures.pool,
)

pub returns-then-is_some-clause-passes : goal.returns-then-is_some-clause-passes
returns-then-is_some-clause-passes g c = passes-trans (view c.args.seat.now) (view c.loop-lane.seat) (view c.take_from.new.seat) c.loop-lane.invariant.1 c.take_from.ensures.passes

pub returns-in_err-taken-clause-passes : goal.returns-in_err-taken-clause-passes
returns-in_err-taken-clause-passes g c = passes-trans (view c.args.seat.now) (view c.loop-lane.seat) (view c.take_from.new.seat) c.loop-lane.invariant.1 c.take_from.ensures.passes

pub returns-in_err-taken-clause-takes : goal.returns-in_err-taken-clause-takes
returns-in_err-taken-clause-takes g c = takes-err (view c.take_from.new.seat) c.from_residual.result c.from_residual.ensures.0 c.in_err-taken.ensures.takes
