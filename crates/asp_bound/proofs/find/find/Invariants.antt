use Rattle.std.proofs.Common.{ℕ, ◌<◌, length, get_or, [], pos}
use Rattle.asp_bound.specs.declared.place.Item.{Item}
use Rattle.asp_bound.specs.Found.{IsNear, Passes}
use Rattle.asp_bound.specs.Starts.{AreStarts}
use Rattle.asp_bound.proofs.find.find.Given as goal

abbrev pub invariant-loop-level : goal.invariant-loop-level
invariant-loop-level l =
    ((j i : ℕ) (d : Item) → j < l.level → i < length (get_or l.columns j []) →
    IsNear (get_or l.sums j (pos 0)) (get_or l.bound j (pos 0)) (get_or (get_or l.columns j []) i d).most → Passes l.values l.rows l.sums l.bound (get_or (get_or l.columns j []) i d).var)
    × AreStarts l.values l.columns l.starts
