use Rattle.asp_propagators.proofs.UnboundedLaws.{unbounded-entailed}
use Rattle.asp_propagators.proofs.laws.unbounded_gives_are_entailed.Goals as goal

pub returns : goal.returns
returns c = unbounded-entailed
