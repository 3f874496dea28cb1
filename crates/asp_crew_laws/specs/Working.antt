-- A number's search and its units, beside the board.
use Rattle.std.specs.Prelude.{◌≡◌, ◌⊎◌, ℕ, Bool, false, List, [], Option, None, Some, ℤ}
use Rattle.asp_model.specs.declared.results.Mode.{Mode}
use Rattle.asp_model.specs.declared.results.Mode.TheVariants.{Enum, Opt, Consequences}
use Rattle.asp_model.specs.Sets.{Atoms}
use Rattle.asp_vars.specs.Literals.{Literal}
use Rattle.asp_vars.specs.Paid.{Units}
use Rattle.asp_path.specs.declared.status.Status.TheVariants as status
use Rattle.asp_path.specs.Trees.{cube_of, status_of}
use Rattle.asp_core.specs.declared.goal.Goal.{Goal}
use Rattle.asp_core.specs.declared.goal.Goal.TheVariants as goal
use Rattle.asp_core.specs.declared.task.Task.{Task}
use Rattle.asp_core.specs.Units.{out_of}
use Rattle.asp_core.specs.Boards.{Board, goal_of, sought}
use Rattle.asp_book.specs.Books.{IsJournalOf}
use Rattle.asp_book.specs.Calls.{Knows}
use Rattle.asp_book.specs.Fuels.{ComesBack}
use Rattle.asp_crew_laws.specs.Agrees.{Agrees, AreApart}

-- In an optimisation a search keeps no answer: its bound says all that was found.
abbrev pub IsKept : Mode → List Atoms → Type 0
IsKept Enum known = Unit {0}
IsKept Opt known = known ≡ []
IsKept (Consequences r) known = Unit {0}

-- No answer is known twice; where consequences are sought one set stands for all of them.
abbrev pub AreApartIn : Mode → List Atoms → Type 0
AreApartIn Enum known = AreApart known
AreApartIn Opt known = AreApart known
AreApartIn (Consequences r) known = Unit {0}

-- A search in this mode and with this bound may look for the goal: in an enumeration for all answers, or for those below its bound; and
-- for the mode's own.
abbrev pub IsSought : Mode → Option (List ℤ) → Goal → Type 0
IsSought Enum bound g = (g ≡ goal.Enum) ⊎ (g ≡ goal.Ties bound)
IsSought Opt bound g = g ≡ goal.Opt
IsSought (Consequences r) bound g = sought g ≡ Some r

-- A search in this mode may begin with this bound: with none for the mode's own goal, and among ties with theirs.
abbrev pub MayBegin : Mode → Option (List ℤ) → Goal → Type 0
MayBegin mode bound g = (((n : Bool) × (g ≡ goal_of mode n)) × (bound ≡ None)) ⊎ ((mode ≡ Enum) × (g ≡ goal.Ties bound))

-- The answers that the search of number n knows, its bound and its units go with the board.
pub record IsAtWork (b : Board) (n : ℕ) (mode : Mode) (known : List Atoms) (bound : Option (List ℤ)) (u : Units) : Type 0 where
  pub goal : IsSought mode bound b.task.goal
  pub agrees : Agrees b known bound
  pub apart : AreApartIn mode known
  pub kept : IsKept mode known
  pub units : ComesBack b (out_of b.out n) u

-- Number n holds the leaf, and its search has entered the leaf's cube.
pub record Works (b : Board) (n leaf : ℕ) (cube : Option (List Literal)) : Type 0 where
  pub held : status_of b.nodes leaf ≡ status.Held n
  pub entered : cube ≡ Some (cube_of b.nodes leaf)

-- A seat between two calls: its board is for this task, and what it has seen is a lawful journal.
pub record IsSeated (t : Task) (v : Knows) : Type 0 where
  pub about : v.about ≡ Some t
  pub rests : v.holds ≡ false
  pub lawful : IsJournalOf t v.seen
