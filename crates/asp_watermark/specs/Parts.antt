-- The answers in parts, as they are taken from a search while it goes on.
use Rattle.std.specs.Prelude.{◌≡◌, ℕ, not, List, filter, length, Option}
use Rattle.asp_model.specs.Sets.{Atoms}
use Rattle.asp_core.specs.Boards.{Board}
use Rattle.asp_core.specs.Sorting.{sorted_once}
use Rattle.asp_watermark.specs.Floors.{IsFloor, IsNoHigher, is_below, is_between, passed}

-- What comes next after so many answers: those between a floor before which there were as many, and a higher one.
pub record IsNext (b : Board) (first : ℕ) (sets : List Atoms) : Type 0 where
  pub low : Option Atoms
  pub high : Option Atoms
  pub was : IsFloor b low
  pub is : IsFloor b high
  pub rises : IsNoHigher low high
  pub count : length (passed b low) ≡ first
  pub sets_are : sets ≡ filter (is_between low high) (sorted_once b.answers)

-- What is left after so many answers, where a search ends early: the others that were delivered.
pub record IsRest (b : Board) (first : ℕ) (sets : List Atoms) : Type 0 where
  pub floor : Option Atoms
  pub is : IsFloor b floor
  pub count : length (passed b floor) ≡ first
  pub sets_are : sets ≡ filter (λ S. not (is_below floor S)) (sorted_once b.answers)
