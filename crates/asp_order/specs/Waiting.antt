-- Which variables wait for a decision, and which of them is next.
use Rattle.std.specs.Prelude.{◌≡◌, ℕ, zero, suc, ◌+◌, Bool, true, false, List, ◌∷◌, length, replicate, fold, Option, None, IsTrue, IsSome}
use Rattle.asp_vars.specs.Literals.{Literal, value_of}
use Rattle.asp_trail.specs.declared.trail.Entry.{Entry}
use Rattle.asp_trail.specs.Entries.{assignment}
use Rattle.asp_trail.specs.Trails.{IsVar}
use Rattle.asp_order.specs.Heaps.{Ranking, is_in, Precedes, bumped, decayed}

-- The variables 1 to vars are ranked.
abbrev pub HasVars : ℕ → Ranking → Type 0
HasVars vars ranking = length ranking.activities ≡ vars + 1

-- All variables are in the heap, and none is active; the number 0 stands for no variable.
abbrev pub fresh : ℕ → Ranking
fresh vars = record { activities = replicate (vars + 1) 0; members = false ∷ replicate vars true; increment = 1024 }

-- what every order keeps: only variables are in the heap
pub record IsOrder (ranking : Ranking) : Type 0 where
  pub sized : length ranking.members ≡ length ranking.activities
  pub zeroth : is_in ranking.members 0 ≡ false

-- Each variable without a value is in the heap.
abbrev pub AreWaiting : ℕ → List Entry → Ranking → Type 0
AreWaiting vars entries ranking = (v : ℕ) → IsVar vars v → value_of (assignment vars entries) v ≡ None → IsTrue (is_in ranking.members v)

-- Each variable has a value.
abbrev pub AreAssigned : ℕ → List (Option Bool) → Type 0
AreAssigned vars values = (v : ℕ) → IsVar vars v → IsSome (value_of values v)

-- The variable has no value, and comes first among those that have none.
pub record IsNext (vars : ℕ) (values : List (Option Bool)) (activities : List ℕ) (v : ℕ) : Type 0 where
  pub var : IsVar vars v
  pub unassigned : value_of values v ≡ None
  pub first : (w : ℕ) → IsVar vars w → value_of values w ≡ None → Precedes activities v w

-- Variables may have been put into the heap, and nothing else has changed.
pub record IsFuller (old new : Ranking) : Type 0 where
  pub same : new ≡ record old { members = new.members }
  pub stays : (v : ℕ) → IsTrue (is_in old.members v) → IsTrue (is_in new.members v)

-- The activities of these literals' variables are bumped in turn.
abbrev pub all_bumped : Ranking → List Literal → Ranking
all_bumped ranking lits = fold (λ h l. bumped h l.var) ranking lits

-- A nogood with these literals was learnt.
abbrev pub learnt : Ranking → List Literal → Ranking
learnt ranking lits = decayed (all_bumped ranking lits)

-- What was bumped counts for less: the increment has grown so many times.
unfoldable pub aged : Ranking → ℕ → Ranking
aged ranking zero = ranking
aged ranking (suc times) = decayed (aged ranking times)
