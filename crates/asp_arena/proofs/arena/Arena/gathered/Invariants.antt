use Rattle.std.proofs.Common.{◌≡◌, take}
use Rattle.asp_arena.proofs.arena.Arena.gathered.Given as goal

abbrev pub invariant-loop-id : goal.invariant-loop-id
invariant-loop-id l = l.gathered ≡ take l.id l.self
