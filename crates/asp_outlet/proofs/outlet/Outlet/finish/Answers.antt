use Rattle.asp_outlet.specs.Outlets.{Moment, last_text, moment}
use Rattle.asp_outlet.proofs.OutletLaws.{ends_after, ends_silent, whole_joins}
use Rattle.asp_outlet.proofs.outlet.Outlet.finish.Goals as goal

pub returns-then-self-clause-ends : goal.returns-then-self-clause-ends
returns-then-self-clause-ends g c = λ a none fine h.
    let p = c.args.self.now.listing.program in
    let sets = c.args.self.now.listing.sets in
    let m : Moment = moment sets (g.K.Sink.held c.args.self.now.sink.now) (g.K.Sink.faults c.args.self.now.sink.now) c.args.self.now.failed in
    ends_silent p (last_text p sets c.args.end c.args.rest.now.sets) _ a m _ (whole_joins p c.args.end sets c.args.rest.now.sets) none fine h c.if-self.true

pub returns-clause-ends : goal.returns-clause-ends
returns-clause-ends g c = λ a none fine h.
    let p = c.args.self.now.listing.program in
    let sets = c.args.self.now.listing.sets in
    let m : Moment = moment sets (g.K.Sink.held c.args.self.now.sink.now) (g.K.Sink.faults c.args.self.now.sink.now) c.args.self.now.failed in
    ends_after p (last_text p sets c.args.end c.args.rest.now.sets) _ a m (g.K.Sink.held c.write_end.new.sink) (g.K.Sink.faults c.write_end.new.sink) c.write_end.result
    (whole_joins p c.args.end sets c.args.rest.now.sets) none h c.if-self.false c.write_end.ensures.puts
