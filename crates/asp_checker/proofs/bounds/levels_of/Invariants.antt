use Rattle.std.proofs.Common.{take}
use Rattle.asp_checker.specs.Blocks.{AreLevels}
use Rattle.asp_checker.proofs.bounds.levels_of.Given as goal

abbrev pub invariant-loop-priority : goal.invariant-loop-priority
invariant-loop-priority l = AreLevels l.compiled (take l.priority-index l.list) l.levels.items
