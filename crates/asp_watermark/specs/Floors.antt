-- What is still to come of a search's answers, and below which set nothing is.
use Rattle.std.specs.Prelude.{◌≡◌, ℕ, Bool, true, false, not, ◌&&◌, List, filter, Option, None, Some, IsTrue}
use Rattle.std.specs.Ordering.{match_ordering}
use Rattle.asp_model.specs.Sets.{Atoms, IsAscending, IsBefore, IsSubset, set_cmp}
use Rattle.asp_vars.specs.Literals.{hits}
use Rattle.asp_vars.specs.Numbering.{values}
use Rattle.asp_path.specs.Trees.{all_closed, cube_of, is_unclosed, status_of}
use Rattle.asp_core.specs.declared.task.Task.{Task}
use Rattle.asp_core.specs.Boards.{Board, is_answer, is_excused, lists}
use Rattle.asp_core.specs.Sorting.{answers_of, sorted_once}

-- A low of the leaf: each answer that is still to come in the leaf has these atoms.
pub record IsLow (b : Board) (leaf : ℕ) (low : Atoms) : Type 0 where
  pub rising : IsAscending low
  pub contained : (S : Atoms) → IsTrue (is_answer b.task S) → IsTrue (hits (values b.task.program S) (cube_of b.nodes leaf)) → is_excused b S ≡ false → IsSubset low S

-- The leaf has a low that doesn't come before x.
abbrev pub StaysFrom : Board → Atoms → ℕ → Type 0
StaysFrom b x leaf = (low : Atoms) × IsLow b leaf low × (IsBefore low x → ⊥)

-- The floor: each leaf that isn't closed has a low that doesn't come before it. There is none where every leaf is closed.
abbrev pub IsFloor : Board → Option Atoms → Type 0
IsFloor b None = IsTrue (all_closed b.nodes)
IsFloor b (Some x) = IsAscending x × ((leaf : ℕ) → IsTrue (is_unclosed (status_of b.nodes leaf)) → StaysFrom b x leaf)

-- whether the set comes before the floor; where there is none, every set does
abbrev pub is_below : Option Atoms → Atoms → Bool
is_below None S = true
is_below (Some x) S = match_ordering (set_cmp S x) true false false

-- whether the set comes before the one floor, and not before the other
abbrev pub is_between : Option Atoms → Option Atoms → Atoms → Bool
is_between low high S = not (is_below low S) && is_below high S

-- What comes before the one floor comes before the other.
abbrev pub IsNoHigher : Option Atoms → Option Atoms → Type 0
IsNoHigher low high = (S : Atoms) → IsTrue (is_below low S) → IsTrue (is_below high S)

-- the answers that the goal lists, in their order
abbrev pub listed : Task → List Atoms
listed t = filter (lists t) (answers_of t)

-- the different answers delivered that come before the floor, in their order
abbrev pub passed : Board → Option Atoms → List Atoms
passed b floor = filter (is_below floor) (sorted_once b.answers)
