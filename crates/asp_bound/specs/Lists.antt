-- What is kept beside the tables, where nothing is told.
use Rattle.std.specs.Prelude.{◌≡◌, ℕ, ◌<◌, List, [], length, replicate}
use Rattle.std.specs.List.{All}
use Rattle.asp_bound.specs.declared.place.Place.{Place}
use Rattle.asp_bound.specs.Gathered.{HasEach}
use Rattle.asp_bound.specs.Kept.{IsOnce}
use Rattle.asp_bound.specs.Raisers.{Line}

-- the variables that have places, a start for each of so many priorities, and no raiser
pub record AreLists (rows : List (List Place)) (levels : ℕ) (vars starts : List ℕ) (raisers : Line) : Type 0 where
  pub within : All (λ v. (0 < v) × (v < length rows)) vars
  pub whole : HasEach rows (length rows) vars
  pub once : IsOnce vars
  pub begun : starts ≡ replicate levels 0
  pub none : raisers ≡ record { vars = []; room = length vars }
