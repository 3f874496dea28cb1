-- Entries in full blocks, and a tail.
use Rattle.std.specs.Prelude.{List, [], ◌∷◌, ◌++◌}
use Rattle.std.specs.Arc.{arc_value}
use Rattle.std.specs.declared.sync.Arc.{Arc}
use Rattle.asp_vars.specs.declared.nogood.Nogood.{Nogood}
use Rattle.asp_log.specs.declared.block.Block.{Block}

-- the entries of the blocks
abbrev pub blocked : {Z : Type 0} → List (Arc Block Z) → List Nogood
blocked [] = []
blocked (b ∷ blocks) = (arc_value b).items.items ++ blocked blocks

-- and then those of the tail
abbrev pub stored : {Z : Type 0} → List (Arc Block Z) → List Nogood → List Nogood
stored blocks tail = blocked blocks ++ tail
