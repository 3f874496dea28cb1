use Rattle.asp_vault.specs.Seats.{view}
use Rattle.asp_worker.proofs.SeatLaws.{idles-passes, none-idles, none-free, this-passes, this-holds, this-free, takes-err}
use Rattle.asp_worker.proofs.find.try_take.Goals as goal

pub returns-then-taken-clause-passes : goal.returns-then-taken-clause-passes
returns-then-taken-clause-passes g c = let k = c.in_ok-taken.ensures.ok in
    this-passes (view c.args.seat.now) (view c.take_this.new.seat) c.take_this.ensures.stays k.0 c.args.leaf c.in_ok-taken.taken k.2

pub returns-then-taken-clause-takes : goal.returns-then-taken-clause-takes
returns-then-taken-clause-takes g c = let k = c.in_ok-taken.ensures.ok in
    this-holds (view c.args.seat.now) (view c.take_this.new.seat) c.take_this.ensures.stays k.0 c.args.leaf c.in_ok-taken.taken c.if-taken.true k.2

pub returns-else-taken-clause-passes : goal.returns-else-taken-clause-passes
returns-else-taken-clause-passes g c = let k = c.in_ok-taken.ensures.ok in
    this-passes (view c.args.seat.now) (view c.take_this.new.seat) c.take_this.ensures.stays k.0 c.args.leaf c.in_ok-taken.taken k.2

pub returns-else-taken-clause-takes : goal.returns-else-taken-clause-takes
returns-else-taken-clause-takes g c = let k = c.in_ok-taken.ensures.ok in
    this-free (view c.args.seat.now) (view c.take_this.new.seat) c.take_this.ensures.stays k.0 c.args.leaf c.in_ok-taken.taken c.if-taken.false
    c.requires.free k.2

pub returns-in_err-taken-clause-passes : goal.returns-in_err-taken-clause-passes
returns-in_err-taken-clause-passes g c =
    idles-passes (view c.args.seat.now) (view c.take_this.new.seat)
    (none-idles (view c.args.seat.now) (view c.take_this.new.seat) c.take_this.ensures.stays c.in_err-taken.ensures.err)

pub returns-in_err-taken-clause-takes : goal.returns-in_err-taken-clause-takes
returns-in_err-taken-clause-takes g c =
    takes-err (view c.take_this.new.seat) c.from_residual.result c.from_residual.ensures.0
    (none-free (view c.args.seat.now) (view c.take_this.new.seat) c.take_this.ensures.stays c.requires.free c.in_err-taken.ensures.err)
