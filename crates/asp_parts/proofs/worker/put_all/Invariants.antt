use Rattle.std.proofs.Common.{vec_len}
use Rattle.asp_split.specs.Dividing.{sets_of}
use Rattle.asp_parts.proofs.PartLaws.{IsPutting}
use Rattle.asp_parts.proofs.worker.put_all.Given as goal

abbrev pub invariant-leaves : goal.invariant-leaves
invariant-leaves l = IsPutting l.compiled (sets_of l.compiled l.initial.leaves.items) l.initial.parts.items l.parts.items l.leaves.items

abbrev pub decreases-leaves : goal.decreases-leaves
decreases-leaves l = vec_len l.leaves
