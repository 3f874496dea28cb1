-- A worker between two calls: its search and its units beside the board that its seat has seen.
use Rattle.std.specs.Prelude.{◌≡◌, ◌⊎◌, ◌≤◌, ◌++◌, ◌∷◌, [], ℕ, false, map, IsTrue, List, Some}
use Rattle.std.specs.List.{list_any}
use Rattle.asp_model.specs.declared.results.Mode.{Mode}
use Rattle.asp_model.specs.declared.results.Mode.TheVariants.{Enum}
use Rattle.asp_model.specs.Costs.{cost}
use Rattle.asp_model.specs.Models.{atoms_of, is_stable}
use Rattle.asp_model.specs.Sets.{Atoms, same_set}
use Rattle.asp_vars.specs.Conflicts.{has_all}
use Rattle.asp_vars.specs.Entailment.{Settled}
use Rattle.asp_vars.specs.Literals.{Literal, hits}
use Rattle.asp_vars.specs.Numbering.{values}
use Rattle.asp_vars.specs.Paid.{Units}
use Rattle.asp_vars.specs.declared.nogood.Nogood.{Nogood}
use Rattle.asp_path.specs.Trees.{cube_of}
use Rattle.asp_rows.specs.Listed.{IsRowFor}
use Rattle.asp_book.specs.declared.listing.Listing.{Listing}
use Rattle.asp_book.specs.Calls.{Knows, task_of, seen_board}
use Rattle.asp_crew_laws.specs.Working.{IsAtWork, Works}
use Rattle.asp_propagate.specs.Useful.{IsSmaller}
use Rattle.asp_search_laws.specs.Searching.{Searching, used}
use Rattle.asp_search_laws.specs.Steps.{Burns, Records}
use Rattle.asp_worker.specs.declared.gather.Pause.{Pause}
use Rattle.asp_worker.specs.declared.gather.Pause.TheVariants as pause
use Rattle.asp_worker.specs.declared.path.Course.{Course}
use Rattle.asp_worker.specs.declared.path.Course.TheVariants.{Open, Done, Spent}
use Rattle.asp_worker.specs.declared.path.Way.{Way}
use Rattle.asp_worker.specs.declared.path.Way.TheVariants.{Closed, Left, Short}
use Rattle.asp_worker.specs.declared.stop.Stop.{Stop}
use Rattle.asp_worker.specs.declared.stop.Stop.TheVariants.{Enough, Memory}
use Rattle.asp_worker.specs.Seats.{Holds, IsFree, IsTidy, Owes, OwnAre, WasEmpty, WasEnough, WasStopped}

-- The search is one of the run, and goes with the board as the units do.
pub record GoesOn (m : Mode) (v : Knows) (s : Searching) (u : Units) : Type 0 where
  pub program : s.program ≡ (task_of v).program
  pub mode_is : s.mode ≡ m
  pub work : IsAtWork (seen_board v) v.number m s.known s.bound u
  pub few : u.left ≤ 64

-- Besides, it is on the path to a leaf that the number holds.
pub record IsOn (m : Mode) (v : Knows) (s : Searching) (u : Units) (leaf : ℕ) : Type 0 where
  pub going : GoesOn m v s u
  pub works : Works (seen_board v) v.number leaf s.cube

-- After want of memory the number still holds the leaf, and has its units.
pub record IsOff (v : Knows) (u : Units) (leaf : ℕ) : Type 0 where
  pub held : Holds v leaf
  pub units : Owes v u

-- A step has left the units as they were, or burnt one for a conflict.
abbrev pub Pays : Searching → Units → Units → Type 0
Pays s f g = (q : List Literal) → s.cube ≡ Some q → (g ≡ f) ⊎ Burns s q f g

-- From s on the search has found this set, and t knows it.
pub record Finds (m : Mode) (v : Knows) (s t : Searching) (u : Units) (leaf : ℕ) (S : Atoms) : Type 0 where
  pub on : IsOn m v s u leaf
  pub program : t.program ≡ s.program
  pub mode_is : t.mode ≡ s.mode
  pub cube : t.cube ≡ s.cube
  pub stable : IsTrue (is_stable s.program S)
  pub hit : IsTrue (hits (values s.program S) (cube_of (seen_board v).nodes leaf))
  pub new : list_any (same_set S) (used s) ≡ false
  pub cheaper : IsSmaller (cost s.program S) s.bound
  pub records : Records s.mode s t (cube_of (seen_board v).nodes leaf) S

-- ---- answers that wait
-- The answer is one that a search seeks on this cube, and none of those that it knows; the row is its own.
pub record IsNew (s : Searching) (q : List Literal) (known : List Atoms) (x : Listing) : Type 0 where
  pub row : IsRowFor (atoms_of s.program) x.set x.row
  pub stable : IsTrue (is_stable s.program x.set)
  pub hit : IsTrue (hits (values s.program x.set) q)
  pub new : list_any (same_set x.set) known ≡ false
  pub cheaper : IsSmaller (cost s.program x.set) s.bound

-- Each is so, where the search knows those before it too.
abbrev pub AreNew : Searching → List Literal → List Atoms → List Listing → Type 0
AreNew s q known [] = Unit {0}
AreNew s q known (x ∷ found) = IsNew s q known x × AreNew s q (known ++ x.set ∷ []) found

-- From s on an enumeration has found these on its cube, one after another, and t knows them.
pub record Gathers (s t : Searching) (q : List Literal) (found : List Listing) : Type 0 where
  pub listing : s.mode ≡ Enum
  pub entered : s.cube ≡ Some q
  pub program : t.program ≡ s.program
  pub mode_is : t.mode ≡ s.mode
  pub cube : t.cube ≡ s.cube
  pub bound : t.bound ≡ s.bound
  pub known : t.known ≡ s.known ++ map (λ (x : Listing). x.set) found
  pub new : AreNew s q s.known found

-- ---- how a step left the path
-- The path has all of the nogood's literals, and nothing is left to be found by it.
abbrev pub IsDone : Searching → List Literal → Nogood → Type 0
IsDone s q n = IsTrue (has_all q n.lits) × Settled s.program (used s) s.bound n.lits

-- what is known by how a step left the path
abbrev pub IsCourse : Knows → Searching → ℕ → Course → Type 0
IsCourse v s leaf Open = Unit {0}
IsCourse v s leaf (Done n) = IsDone s (cube_of (seen_board v).nodes leaf) n
IsCourse v s leaf Spent = WasEmpty v

-- what is known by why no more answers are gathered
abbrev pub IsPause : Searching → Pause → Type 0
IsPause s pause.Due = Unit {0}
IsPause s pause.Restarted = Unit {0}
IsPause s (pause.Closed n) = (q : List Literal) → s.cube ≡ Some q → IsDone s q n

-- what is known where a path is given up
abbrev pub IsStop : Knows → Stop → Type 0
IsStop v Enough = WasEnough v
IsStop v Memory = Unit {0}

-- what is known by how the worker left the path: it has none, or still has this one. `stopped` says that somebody stopped it.
abbrev pub IsWay : Type 0 → Mode → Knows → Searching → Units → ℕ → Way → Type 0
IsWay stopped m v s u leaf Closed = GoesOn m v s u × IsFree v
IsWay stopped m v s u leaf Left = IsOff v u leaf × WasStopped stopped v
IsWay stopped m v s u leaf Short = IsOff v u leaf

-- what the worker has once it gave up what it still had
abbrev pub Ended : Type 0 → Mode → Knows → Searching → Units → Way → Type 0
Ended stopped m v s u Closed = GoesOn m v s u × OwnAre IsTidy v
Ended stopped m v s u Left = WasStopped stopped v
Ended stopped m v s u Short = Unit {0}
