-- What was told and what waits, beside the board.
use Rattle.std.specs.Prelude.{◌≡◌, not, List, filter, Some}
use Rattle.asp_model.specs.Models.{atoms_of}
use Rattle.asp_model.specs.Sets.{Atoms}
use Rattle.asp_core.specs.Boards.{Board}
use Rattle.asp_core.specs.Sorting.{sorted_once}
use Rattle.asp_watermark.specs.Floors.{IsFloor, is_below, passed}
use Rattle.asp_backlog.specs.Backlogs.{Pending}

-- What was heard was passed by the floor, and what was delivered and isn't passed waits.
pub record IsTold (b : Board) (heard : List Atoms) (w : Pending) : Type 0 where
  pub atoms : w.atoms ≡ atoms_of b.task.program
  pub floor : IsFloor b (Some w.floor)
  pub heard_is : heard ≡ passed b (Some w.floor)
  pub waiting : w.sets ≡ sorted_once (filter (λ S. not (is_below (Some w.floor) S)) b.answers)
