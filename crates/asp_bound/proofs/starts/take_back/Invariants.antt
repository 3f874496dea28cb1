use Rattle.std.proofs.Common.{ℕ, ◌<◌, ◌≤◌, get_or}
use Rattle.asp_bound.specs.declared.place.Place.{Place}
use Rattle.asp_bound.proofs.starts.take_back.Given as goal

abbrev pub invariant-loop-place : goal.invariant-loop-place
invariant-loop-place l =
    ((j : ℕ) → get_or l.starts j 0 ≤ get_or l.initial.starts j 0) × ((k : ℕ) (d : Place) → k < l.place-index → get_or l.starts (get_or l.row k d).level 0 ≤ (get_or l.row k d).index)
