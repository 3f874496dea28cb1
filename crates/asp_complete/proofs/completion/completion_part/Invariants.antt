use Rattle.std.proofs.Common.{◌≡◌, map}
use Rattle.asp_complete.specs.Listed.{nogoods_between, pure}
use Rattle.asp_complete.proofs.completion.completion_part.Given as goal

abbrev pub invariant-loop-group : goal.invariant-loop-group
invariant-loop-group l = l.nogoods.items ≡ map pure (nogoods_between l.compiled l.from l.group)
