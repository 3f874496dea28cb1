use Rattle.asp_outlet.specs.Outlets.{moment}
use Rattle.asp_top.proofs.EndLaws.{cut-by-fault, cut-by-memory}
use Rattle.asp_top.proofs.stream.cut_short.Goals as goal

pub returns-then-outlet-clause-cut : goal.returns-then-outlet-clause-cut
returns-then-outlet-clause-cut g c = λ a none fine after.
    let m = moment c.args.outlet.now.listing.sets (g.K.Sink.held c.args.outlet.now.sink.now) (g.K.Sink.faults c.args.outlet.now.sink.now) c.args.outlet.now.failed in
    cut-by-fault c.args.outlet.now.listing.program c.args.outlet.now.listing.all a m c.is_closed.result c.failed.result none fine after c.requires.front c.if-outlet.true c.failed.ensures

pub returns-else-outlet-clause-cut : goal.returns-else-outlet-clause-cut
returns-else-outlet-clause-cut g c = λ a none fine after.
    let m = moment c.args.outlet.now.listing.sets (g.K.Sink.held c.args.outlet.now.sink.now) (g.K.Sink.faults c.args.outlet.now.sink.now) c.args.outlet.now.failed in
    cut-by-memory c.args.outlet.now.listing.program c.args.outlet.now.listing.all a m c.failed-else-outlet.result none fine after c.requires.front c.if-outlet.false c.failed-else-outlet.ensures
