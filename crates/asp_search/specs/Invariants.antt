-- What every search keeps.
use Rattle.std.specs.Prelude.{◌≡◌, ℕ, List, Option, Some, None, ℤ, []}
use Rattle.asp_model.specs.declared.program.Program.{Program}
use Rattle.asp_model.specs.declared.results.Mode.{Mode}
use Rattle.asp_model.specs.declared.results.Mode.TheVariants as mode
use Rattle.asp_model.specs.declared.results.Reasoning.{Reasoning}
use Rattle.asp_model.specs.Asked.{reasoning_of}
use Rattle.asp_model.specs.Consequences.{used_up}
use Rattle.asp_model.specs.Sets.{Atoms}
use Rattle.asp_vars.specs.Knowing.{Knowing}
use Rattle.asp_vars.specs.Numbering.{var_count}
use Rattle.asp_order.specs.Pacing.{Paced}
use Rattle.asp_search_laws.specs.Keeping.{AreUseful, AreExcluded, AreBlocking, IsLast}
use Rattle.asp_search_laws.specs.Searching.{Searching}
use Rattle.asp_state.specs.SearchStates.{SearchView}

-- The state is of the program and the bound, its nogoods count for the search, each model that need not be found again is blocked by one that
-- is kept forever, and those that block one are listed. The checker is of the program. In an optimisation there is no such model.
pub record IsSearch (p : Program) (m : Mode) (t : SearchView) (vars : ℕ) (checker : Program) (known : List Atoms) (blocking : List ℕ) (bound : Option (List ℤ)) (last : Option ℕ) : Type 0 where
  pub program : p ≡ t.program
  pub bounded : bound ≡ t.bound
  pub counted : vars ≡ var_count t.program
  pub checked : checker ≡ p
  pub useful : AreUseful t.program known t.bound t.slots
  pub blocked : AreExcluded t.program t.slots known
  pub blocking_stand : AreBlocking t.slots blocking
  pub last_stands : IsLast t.slots last
  pub alone : m ≡ mode.Opt → known ≡ []

-- what callers see
abbrev pub view_of : Mode → SearchView → Paced → List Atoms → Option ℕ → Searching
view_of m t c known last = record {
  program = t.program;
  mode = m;
  cube = t.cube;
  clashing = t.clashing;
  known = known;
  bound = t.bound;
  entries = t.entries;
  decisions = t.decisions;
  slots = t.slots;
  ranking = t.ranking;
  restarts = c.restarts;
  learnt = c.learnt;
  last = last;
}

-- ---- how the answers known are stored
-- a list, or where consequences are sought the set that stands for them
abbrev pub answers_known : List Atoms → Option Knowing → List Atoms
answers_known K None = K
answers_known K (Some k) = k.sets

-- They are kept so exactly where consequences are sought.
abbrev pub IsSeen : Option Reasoning → Program → Option Knowing → Type 0
IsSeen None p None = Unit {0}
IsSeen None p (Some k) = ⊥
IsSeen (Some r) p None = ⊥
IsSeen (Some r) p (Some k) = (k.program ≡ p) × (k.reasoning ≡ r)

-- what need not be found again
abbrev pub used_in : Program → Mode → List Atoms → Option Knowing → List Atoms
used_in p m K seen = used_up (reasoning_of m) p (answers_known K seen)
