use Rattle.std.proofs.Common.{◌+◌, ◌++◌, length}
use Rattle.asp_outlet.specs.Outlets.{Moment, moment, next_text, optima_closing}
use Rattle.asp_outlet.proofs.OutletLaws.{ends_after, ends_silent, optima_join}
use Rattle.asp_outlet.proofs.outlet.Outlet.finish_optima.Goals as goal

pub returns-then-self-clause-ends : goal.returns-then-self-clause-ends
returns-then-self-clause-ends g c = λ a none fine h.
    let p = c.args.self.now.listing.program in
    let sets = c.args.self.now.listing.sets in
    let m : Moment = moment sets (g.K.Sink.held c.args.self.now.sink.now) (g.K.Sink.faults c.args.self.now.sink.now) c.args.self.now.failed in
    ends_silent p (next_text p sets c.args.rest.now.sets ++ optima_closing c.args.end c.args.cost.now (length sets + length c.args.rest.now.sets)) _ a m _
    (optima_join p c.args.end c.args.cost.now sets c.args.rest.now.sets) none fine h c.if-self.true

pub returns-clause-ends : goal.returns-clause-ends
returns-clause-ends g c = λ a none fine h.
    let p = c.args.self.now.listing.program in
    let sets = c.args.self.now.listing.sets in
    let m : Moment = moment sets (g.K.Sink.held c.args.self.now.sink.now) (g.K.Sink.faults c.args.self.now.sink.now) c.args.self.now.failed in
    ends_after p (next_text p sets c.args.rest.now.sets ++ optima_closing c.args.end c.args.cost.now (length sets + length c.args.rest.now.sets)) _ a m
    (g.K.Sink.held c.write_optima_end.new.sink) (g.K.Sink.faults c.write_optima_end.new.sink) c.write_optima_end.result
    (optima_join p c.args.end c.args.cost.now sets c.args.rest.now.sets) none h c.if-self.false c.write_optima_end.ensures.puts
