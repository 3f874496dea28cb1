use Rattle.std.proofs.Common.{◌≤◌, ◌*◌, ◌^◌, take}
use Rattle.asp_bound.specs.Weights.{size_of, AreWeights}
use Rattle.asp_bound.proofs.weights.add_all.Given as goal

-- the first items' weights were added
abbrev pub invariant-loop-literal : goal.invariant-loop-literal
invariant-loop-literal l =
    AreWeights l.compiled (take l.literal-index l.items) l.weights × (size_of (take l.literal-index l.items) ≤ 2 ^ 31 * l.literal-index)
