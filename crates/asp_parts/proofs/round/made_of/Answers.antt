use Rattle.asp_parts.proofs.RoundLaws.{still-workers}
use Rattle.asp_parts.proofs.round.made_of.Goals as goal

pub returns-then-is_short-clause-workers : goal.returns-then-is_short-clause-workers
returns-then-is_short-clause-workers g c = still-workers c.args.compiled.now _ _ c.each.ensures

pub returns-clause-workers : goal.returns-clause-workers
returns-clause-workers g c = still-workers c.args.compiled.now _ _ c.put_together.ensures.done
