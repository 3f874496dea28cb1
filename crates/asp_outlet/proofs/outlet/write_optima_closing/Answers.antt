use Rattle.std.proofs.Common.{[]}
use Rattle.std.specs.Prelude.{Ok}
use Rattle.asp_buffer.specs.Out.{Puts, out}
use Rattle.asp_outlet.specs.Outlets.{optima_closing}
use Rattle.asp_outlet.proofs.OutletLaws.{puts_and_sent, puts_of}
use Rattle.asp_outlet.proofs.outlet.write_optima_closing.Goals as goal

pub returns-clause-puts : goal.returns-clause-puts
returns-clause-puts g c =
    let before = out (g.K.Sink.held c.args.sink.now) (g.K.Sink.faults c.args.sink.now) [] in
    let after = out (g.K.Sink.held c.print_optima_closing.new.sink) (g.K.Sink.faults c.print_optima_closing.new.sink) [] in
    let went : Puts {T = Unit {0}} {E = Unit {0}} before after (Ok tt) (optima_closing c.args.end c.args.cost.now c.args.count) =
    puts_of (g.K.Sink.held c.args.sink.now) (g.K.Sink.held c.print_optima_closing.new.sink) (g.K.Sink.faults c.args.sink.now) (g.K.Sink.faults c.print_optima_closing.new.sink) (Ok tt)
    (optima_closing c.args.end c.args.cost.now c.args.count) c.in_ok-print_optima_closing.ensures.all tt c.in_ok-print_optima_closing.ensures.later tt c.in_ok-print_optima_closing.ensures.quiet in
    puts_and_sent _ _ _ _ _ _ tt c.flush.result (optima_closing c.args.end c.args.cost.now c.args.count) went c.flush.ensures.bytes c.flush.ensures.cause c.flush.ensures.quiet
