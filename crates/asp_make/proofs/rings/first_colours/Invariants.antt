use Rattle.std.proofs.Common.{◌≡◌, ◌∷◌, []}
use Rattle.std.specs.Prelude.{pos}
use Rattle.asp_make.specs.Ring.{each_below, coloured}
use Rattle.asp_make.proofs.rings.first_colours.Given as goal

abbrev pub invariant-loop-node : goal.invariant-loop-node
invariant-loop-node l = l.items.items ≡ each_below (λ i. (pos (coloured i 1), pos 1) ∷ []) l.node
