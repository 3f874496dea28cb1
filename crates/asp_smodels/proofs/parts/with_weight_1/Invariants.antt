use Rattle.std.proofs.Common.{◌≡◌, take}
use Rattle.std.specs.Prelude.{pos, map}
use Rattle.asp_smodels.proofs.parts.with_weight_1.Given as goal

abbrev pub invariant-loop-literal : goal.invariant-loop-literal
invariant-loop-literal l = l.items.items ≡ map (λ l. (l, pos 1)) (take l.literal-index l.literals)
