-- A violated nogood, and the conflict that it shows.
use Rattle.std.specs.Prelude.{◌≡◌, ℕ, ◌≤◌, false, List, [], ◌∷◌, length, take, Option, Some, None, ℤ, IsSome}
use Rattle.asp_model.specs.declared.program.Program.{Program}
use Rattle.asp_model.specs.declared.results.Reasoning.{Reasoning}
use Rattle.asp_model.specs.Consequences.{used_up}
use Rattle.asp_model.specs.Sets.{Atoms}
use Rattle.asp_vars.specs.Literals.{Literal, complement, value_of}
use Rattle.asp_vars.specs.Numbering.{var_count}
use Rattle.asp_vars.specs.Completion.{completion}
use Rattle.asp_vars.specs.Conflicts.{IsConflict}
use Rattle.asp_vars.specs.Paid.{Clash}
use Rattle.asp_vars.specs.declared.nogood.Base.TheVariants as base
use Rattle.asp_vars.specs.declared.nogood.Nogood.{Nogood}
use Rattle.asp_trail.specs.Entries.{level_in}
use Rattle.asp_trail.specs.Trails.{IsOrdered}
use Rattle.asp_store.specs.Keeping.{nogood_at}
use Rattle.asp_analyze.specs.declared.learn.Learned.{Learned}
use Rattle.asp_trail_laws.specs.Fixpoint.{WereAtFixpoint}
use Rattle.asp_trail_laws.specs.Settling.{AreSettled}
use Rattle.asp_trail_laws.specs.Starts.{AreStarts}
use Rattle.asp_propagate.specs.Useful.{IsUseful}
use Rattle.asp_search_laws.specs.Explaining.{Explains}
use Rattle.asp_search_laws.specs.Keeping.{AreUseful}
use Rattle.asp_search_laws.specs.Searching.{Searching, used}
use Rattle.asp_search_laws.specs.declared.step.Step.{Step}
use Rattle.asp_search_laws.specs.declared.step.Step.TheVariants as step
use Rattle.asp_state.specs.SearchStates.{HasBoth, SearchView, values_of}

-- What is known where a violated nogood was analysed.
pub record IsMet (gives : Nogood → Type 0) (s : Searching) (q : List Literal) (id : ℕ) (l : Learned) : Type 0 where
  pub entered : s.cube ≡ Some q
  pub clear : s.clashing ≡ false
  pub last : s.last ≡ None
  pub ordered : IsOrdered (var_count s.program) s.entries
  pub starts : AreStarts q s.decisions s.entries
  pub fixpoint : WereAtFixpoint (var_count s.program) (completion s.program) s.entries
  pub reasons : AreSettled s.program (used s) s.bound s.entries
  pub useful : AreUseful s.program (used s) s.bound s.slots
  pub given : (n : Nogood) → gives n → IsUseful s.program (used s) s.bound n
  pub explains : Explains gives (var_count s.program) s.slots s.entries id l

-- The nogood under this number shows a conflict of the cube and the decisions up to the literal's level.
pub record ShowsConflict (p : Program) (known : List Atoms) (bound : Option (List ℤ)) (t : SearchView) (id : ℕ) (lit : Literal) : Type 0 where
  pub cube : List Literal
  pub entered : t.cube ≡ Some cube
  pub from : Nogood
  pub stands : nogood_at t.slots id ≡ Some from
  pub small : lit.var ≤ var_count t.program
  pub has : IsSome (value_of (values_of t) lit.var)
  pub low : level_in t.entries lit.var ≤ length t.decisions
  pub conflict : IsConflict p known bound cube (take (level_in t.entries lit.var) t.decisions) from.lits

-- the nogood of a literal and its complement
abbrev pub opposed : Literal → Nogood
opposed l = record { lits = l ∷ complement l ∷ []; base = base.Pure }

-- Closed by a literal of the cube whose complement is there too.
abbrev pub IsClashed : Option (List Literal) → Step → Type 0
IsClashed cube r = (q : List Literal) → cube ≡ Some q → (l : Literal) × (r ≡ step.Closed (opposed l)) × HasBoth q l

-- that conflict
abbrev pub IsClashOf : (p : Program) (k : Option Reasoning) (known : List Atoms) (bound : Option (List ℤ)) (t : SearchView) (id : ℕ) (lit : Literal) → Clash → Type 0
IsClashOf p k known bound t id lit x = (m : ShowsConflict p (used_up k p known) bound t id lit) →
    x ≡ record { program = p; cube = m.cube; decisions = take (level_in t.entries lit.var) t.decisions; nogood = m.from.lits; reasoning = k; known = length known; bound = bound }
