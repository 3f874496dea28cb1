use Rattle.std.proofs.Common.{[], take}
use Rattle.asp_bound.specs.Gathered.{AreGathered}
use Rattle.asp_bound.specs.Weights.{AreWeights}
use Rattle.asp_bound.proofs.levels.levels_of.Given as goal

abbrev pub invariant-loop-level : goal.invariant-loop-level
invariant-loop-level l = AreGathered l.compiled (take l.level l.priorities) l.rows l.columns l.sums.items × AreWeights l.compiled [] l.weights.items
