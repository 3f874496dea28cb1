use Rattle.std.proofs.Common.{ap}
use Rattle.asp_book.specs.Calls.{Knows}
use Rattle.asp_team.proofs.TeamLaws.{host-parted, may-join}
use Rattle.asp_team.proofs.team.next.Goals as goal

pub returns-clause-host : goal.returns-clause-host
returns-clause-host c = host-parted c.args.shared.now c.args.lead.now _ c.requires.host c.split.ensures.of.0 c.split-2.ensures.at.0 c.split-2.ensures.first c.split.ensures.old

pub returns-clause-number : goal.returns-clause-number
returns-clause-number c = ap (λ (x : Knows). x.number) c.split.ensures.new

pub returns-clause-may : goal.returns-clause-may
returns-clause-may c = may-join c.args.shared.now c.args.lead.now _ c.requires.host c.split.ensures.of.1 c.split-2.ensures.at.1 c.requires.pass c.split.ensures.new

pub returns-clause-began : goal.returns-clause-began
returns-clause-began c = ap (λ (x : Knows). x.seen) c.split.ensures.new
