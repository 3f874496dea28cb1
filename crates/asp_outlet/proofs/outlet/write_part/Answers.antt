use Rattle.asp_outlet.proofs.OutletLaws.{puts_and_sent}
use Rattle.asp_outlet.proofs.outlet.write_part.Goals as goal

pub returns-clause-puts : goal.returns-clause-puts
returns-clause-puts g c = puts_and_sent _ _ _ _ _ _ _ c.flush.result _ c.in_ok-write.ensures.puts c.flush.ensures.bytes c.flush.ensures.cause c.flush.ensures.quiet
