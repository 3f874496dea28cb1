-- What the propagator keeps.
use Rattle.std.specs.Prelude.{◌≡◌, ℕ, ◌+◌, ◌<◌, ◌≤◌, ◌^◌, Bool, true, false, List, Option, length}
use Rattle.asp_model.specs.declared.program.Program.{Program}
use Rattle.asp_model.specs.Sound.{IsSound}
use Rattle.asp_vars.specs.Literals.{holds_in}
use Rattle.asp_vars.specs.Numbering.{var_count}
use Rattle.asp_trail.specs.Fixpoint.{is_open}
use Rattle.asp_weight.specs.declared.item.Item.{Item}
use Rattle.asp_weight.specs.declared.item.Shape.{Shape}
use Rattle.asp_weight.specs.declared.item.Place.{Place}
use Rattle.asp_weight.specs.declared.tally.Tally.{Tally}
use Rattle.asp_weight.specs.Rows.{sum_where, weighed_bodies, AreRows, shape_at, row_at, is_silent_row}
use Rattle.asp_weight.specs.Tallied.{tally_at}
use Rattle.asp_weight.specs.Placed.{ArePlaces}
use Rattle.asp_weight.specs.Spoken.{item_at}

-- The first n items have values.
pub record ArePassed (a : List (Option Bool)) (row : List Item) (n : ℕ) : Type 0 where
  pub within : n ≤ length row
  pub each : (k : ℕ) → k < n → is_open a (item_at row k).lit ≡ false

-- The counters are the sums from scratch, and looks begin where no open item is left out.
pub record AreCounted (a : List (Option Bool)) (rows : List (List Item)) (tallies : List Tally) : Type 0 where
  pub whole : length tallies ≡ length rows
  pub reached : (w : ℕ) → (tally_at tallies w).reached ≡ sum_where (holds_in a) true (row_at rows w)
  pub missed : (w : ℕ) → (tally_at tallies w).missed ≡ sum_where (holds_in a) false (row_at rows w)
  pub passed : (w : ℕ) → w < length rows → ArePassed a (row_at rows w) (tally_at tallies w).start

-- Each weight body that isn't queued is silent.
abbrev pub AreSilentRows : List (Option Bool) → List Shape → List (List Item) → List Tally → Type 0
AreSilentRows a shapes rows tallies =
    (w : ℕ) → w < length rows → (tally_at tallies w).queued ≡ false → is_silent_row a (shape_at shapes w) (row_at rows w) ≡ true

pub record IsKept (p : Program) (a : List (Option Bool)) (shapes : List Shape) (rows : List (List Item)) (places : List (List Place)) (tallies : List Tally) : Type 0 where
  pub sound : IsSound p
  pub few : var_count p < 2 ^ 31
  pub sized : length a ≡ var_count p + 1
  pub rowed : AreRows p (weighed_bodies p) shapes rows
  pub placed : ArePlaces shapes rows places
  pub counted : AreCounted a rows tallies
  pub silence : AreSilentRows a shapes rows tallies
