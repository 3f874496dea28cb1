use Rattle.std.proofs.Common.{◌∙◌}
use Rattle.asp_search.proofs.faults.gathered.Goals as goal

pub returns : goal.returns
returns c = c.in_ok-atoms.ensures.items ∙ c.gather-len.ensures.held
