use Rattle.std.proofs.Common.{vec_len}
use Rattle.asp_parts.proofs.RoundLaws.{IsTogether}
use Rattle.asp_parts.proofs.round.put_together.Given as goal

abbrev pub invariant-parts : goal.invariant-parts
invariant-parts l = IsTogether l.compiled l.fn.parts.items l.left.items l.back.items l.workers

abbrev pub decreases-parts : goal.decreases-parts
decreases-parts l = vec_len l.left
