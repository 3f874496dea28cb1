use Rattle.std.proofs.Common.{refl, sym, ◌∙◌}
use Rattle.asp_vault.specs.Seats.{view}
use Rattle.asp_worker.proofs.SeatLaws.{passes-self, passes-trans, settled-passes, takes-not, takes-err}
use Rattle.asp_worker.proofs.find.take_own.Goals as goal

pub offers-init : goal.offers-init
offers-init g c = (refl, passes-self (view c.args.seat.now) c.requires.settled, c.requires.free)

pub try_take-requires-clause-settled : goal.try_take-requires-clause-settled
try_take-requires-clause-settled g c = settled-passes (view c.args.seat.now) (view c.offers.seat) c.requires.settled c.offers.invariant.1

pub offers-preserved : goal.offers-preserved
offers-preserved g c = (
  c.try_take.ensures.of ∙ c.offers.invariant.0,
  passes-trans (view c.args.seat.now) (view c.offers.seat) (view c.try_take.new.seat) c.offers.invariant.1 c.try_take.ensures.passes,
  takes-not (view c.try_take.new.seat) c.in_ok-taken-in-Some-own.taken c.in_ok-taken-in-Some-own.ensures.takes (sym c.is_some.ensures ∙ c.if-is_some.false),
)

pub returns-then-is_some-clause-passes : goal.returns-then-is_some-clause-passes
returns-then-is_some-clause-passes g c = passes-trans (view c.args.seat.now) (view c.offers.seat) (view c.try_take.new.seat) c.offers.invariant.1 c.try_take.ensures.passes

pub returns-in_err-taken-in-Some-own-clause-passes : goal.returns-in_err-taken-in-Some-own-clause-passes
returns-in_err-taken-in-Some-own-clause-passes g c = passes-trans (view c.args.seat.now) (view c.offers.seat) (view c.try_take.new.seat) c.offers.invariant.1 c.try_take.ensures.passes

pub returns-in_err-taken-in-Some-own-clause-takes : goal.returns-in_err-taken-in-Some-own-clause-takes
returns-in_err-taken-in-Some-own-clause-takes g c = takes-err (view c.try_take.new.seat) c.from_residual.result c.from_residual.ensures.0 c.in_err-taken-in-Some-own.ensures.takes
