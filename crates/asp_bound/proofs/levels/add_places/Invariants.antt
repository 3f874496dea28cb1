use Rattle.std.proofs.Common.{◌≡◌, map, take}
use Rattle.asp_bound.specs.Levels.{item_of, ArePlaced}
use Rattle.asp_bound.proofs.levels.add_places.Given as goal

abbrev pub invariant-loop-index : goal.invariant-loop-index
invariant-loop-index l = ArePlaced l.level (take l.index l.additions) l.initial.rows l.rows × (l.column.items ≡ map item_of (take l.index l.additions))
