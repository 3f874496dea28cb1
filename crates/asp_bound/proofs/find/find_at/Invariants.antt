use Rattle.std.proofs.Common.{ℕ, ◌<◌, get_or}
use Rattle.asp_bound.specs.declared.place.Item.{Item}
use Rattle.asp_bound.specs.Found.{Passes}
use Rattle.asp_bound.proofs.find.find_at.Given as goal

abbrev pub invariant-loop-index : goal.invariant-loop-index
invariant-loop-index l = (i : ℕ) (d : Item) → i < l.index → Passes l.values l.rows l.sums l.bound (get_or l.column i d).var
