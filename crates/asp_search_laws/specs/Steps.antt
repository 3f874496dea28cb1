-- What a step of the search promises, by its answer.
use Rattle.std.specs.Prelude.{◌≡◌, ℕ, ◌+◌, ◌-◌, ◌^◌, ◌<◌, ◌≤◌, ◌⊎◌, Bool, true, false, ◌||◌, List, ◌∷◌, ◌++◌, map, length, take, min, max, Option, Some, None, ℤ, IsTrue, []}
use Rattle.std.specs.List.{list_any, All}
use Rattle.std.specs.Option.{is_some}
use Rattle.asp_model.specs.declared.results.Mode.{Mode}
use Rattle.asp_model.specs.declared.results.Mode.TheVariants as mode
use Rattle.asp_model.specs.declared.results.Reasoning.{Reasoning}
use Rattle.asp_model.specs.declared.results.Reasoning.TheVariants.{Brave, Cautious}
use Rattle.asp_model.specs.Asked.{reasoning_of}
use Rattle.asp_model.specs.Consequences.{common_sets, unshown}
use Rattle.asp_model.specs.declared.program.Program.{Program}
use Rattle.asp_model.specs.Sets.{Atoms, same_set}
use Rattle.asp_model.specs.Models.{is_stable}
use Rattle.asp_model.specs.Costs.{cost}
use Rattle.asp_vars.specs.Literals.{Literal, T, F, complement, has_literal, hits, holds_in}
use Rattle.asp_vars.specs.Numbering.{values, var_count, var_of_atom}
use Rattle.asp_vars.specs.Entailment.{Settled}
use Rattle.asp_vars.specs.Conflicts.{IsConflict, has_all}
use Rattle.asp_vars.specs.Paid.{Clash, Units, least_of}
use Rattle.asp_vars.specs.Resolution.{is_bound_within}
use Rattle.asp_vars.specs.declared.nogood.Base.{Base}
use Rattle.asp_vars.specs.declared.nogood.Base.TheVariants as base
use Rattle.asp_vars.specs.declared.nogood.Nogood.{Nogood}
use Rattle.asp_trail.specs.declared.trail.Entry.{Entry}
use Rattle.asp_trail.specs.Entries.{assignment, level}
use Rattle.asp_store.specs.Keeping.{nogood_at}
use Rattle.asp_order.specs.Waiting.{IsNext}
use Rattle.asp_propagate.specs.Propagating.{IsFixpoint}
use Rattle.asp_propagate.specs.Useful.{IsSmaller}
use Rattle.asp_search_laws.specs.Axioms.{AreDerived, IsDerived}
use Rattle.asp_search_laws.specs.Keeping.{Grows, GrowsUnlessGiven}
use Rattle.asp_search_laws.specs.Searching.{Searching, used, values_now}
use Rattle.asp_search_laws.specs.declared.step.Step.{Step}
use Rattle.asp_search_laws.specs.declared.step.Step.TheVariants as step

-- The task is the same: only an answer changes what is known, and the bound.
pub record HasSameTask (s t : Searching) : Type 0 where
  pub program : t.program ≡ s.program
  pub mode : t.mode ≡ s.mode
  pub cube : t.cube ≡ s.cube
  pub known : t.known ≡ s.known
  pub bound : t.bound ≡ s.bound

-- Nogoods were added, each of which is an axiom or reached by resolution, and else at most dropped.
abbrev pub Derives : (Nogood → Type 0) → Searching → Searching → Type 0
Derives gives s t = AreDerived s.program gives s.bound (nogood_at s.slots) (nogood_at t.slots)

-- the entries before the newest, and the values under them
abbrev pub entries_before : Searching → List Entry
entries_before t = take (length t.entries - 1) t.entries

abbrev pub values_before : Searching → List (Option Bool)
values_before t = assignment (var_count t.program) (entries_before t)

-- ---- Decided: before the newest entry all was at fixpoint; that one is of the first variable without a value.
pub record Decides (gives : Nogood → Type 0) (silent : List (Option Bool) → Type 0) (s t : Searching) (f g : Units) : Type 0 where
  pub same : HasSameTask s t
  pub fuel : g ≡ f
  pub fixpoint : IsFixpoint silent t.slots (values_before t)
  pub lit : Literal
  pub next : IsNext (var_count t.program) (values_before t) t.ranking.activities lit.var
  pub entry : t.entries ≡ entries_before t ++ record { lit = lit; level = length s.decisions + 1; reason = None } ∷ []
  pub decisions : t.decisions ≡ s.decisions ++ lit ∷ []
  pub longer : length s.entries < length t.entries
  pub grows : Grows s.slots t.slots
  pub derived : Derives gives s t
  pub learnt : t.learnt ≡ s.learnt
  pub restarts : t.restarts ≡ s.restarts
  pub last : t.last ≡ None

-- ---- conflicts
-- A conflict of the answers known and the bound, whose decisions begin those of the search.
pub record IsConflictOf (s : Searching) (q : List Literal) (x : Clash) : Type 0 where
  pub program : x.program ≡ s.program
  pub cube : x.cube ≡ q
  pub reasoning : x.reasoning ≡ reasoning_of s.mode
  pub known : x.known ≡ length s.known
  pub bound : x.bound ≡ s.bound
  pub level : ℕ
  pub decisions : x.decisions ≡ take level s.decisions
  pub conflict : IsConflict s.program (used s) s.bound x.cube x.decisions x.nogood

-- one unit is burnt for a conflict
abbrev pub burnt : Units → Clash → Units
burnt f x = record { program = f.program; left = f.left - 1; burnt = f.burnt + 1; reasoned = f.reasoned || is_some x.reasoning; known = max f.known x.known; least = least_of f.least x.bound }

pub record Burns (s : Searching) (q : List Literal) (f g : Units) : Type 0 where
  pub clash : Clash
  pub conflict : IsConflictOf s q clash
  pub left : 0 < f.left
  pub paid : g ≡ burnt f clash

-- ---- Learnt
-- It is the complement of the literal, or it holds.
abbrev pub IsBeside : List (Option Bool) → Literal → Literal → Type 0
IsBeside a lit l = (l ≡ complement lit) ⊎ IsTrue (holds_in a l)

-- The newest entry follows by the nogood that was learnt: it has the complement of the entry's literal, and else literals that hold.
pub record FollowsByLast (t : Searching) : Type 0 where
  pub id : ℕ
  pub nogood : Nogood
  pub last : t.last ≡ Some id
  pub kept : nogood_at t.slots id ≡ Some nogood
  pub entry : Entry
  pub newest : t.entries ≡ entries_before t ++ entry ∷ []
  pub has : IsTrue (has_literal nogood.lits (complement entry.lit))
  pub others : All (IsBeside (values_before t) entry.lit) nogood.lits

pub record Learns (gives : Nogood → Type 0) (s t : Searching) (q : List Literal) (f g : Units) : Type 0 where
  pub same : HasSameTask s t
  pub burns : Burns s q f g
  pub follows : FollowsByLast t
  pub decisions : (k : ℕ) × (t.decisions ≡ take k s.decisions)
  pub grows : GrowsUnlessGiven s.slots t.slots
  pub derived : Derives gives s t
  pub learnt : t.learnt ≡ min (s.learnt + 1) (2 ^ 64 - 1)
  pub restarts : t.restarts ≡ s.restarts

-- ---- NoFuel: a conflict was met, and nothing is left to pay for it.
pub record Stops (gives : Nogood → Type 0) (s t : Searching) (q : List Literal) (f g : Units) (x : Clash) : Type 0 where
  pub same : HasSameTask s t
  pub fuel : g ≡ f
  pub none : f.left ≡ 0
  pub conflict : IsConflictOf s q x
  pub contained : All (λ l. IsTrue (holds_in (values_now t) l)) x.nogood
  pub decisions : t.decisions ≡ s.decisions
  pub derived : Derives gives s t
  pub learnt : t.learnt ≡ s.learnt
  pub restarts : t.restarts ≡ s.restarts
  pub last : t.last ≡ None

-- ---- Closed: a derived nogood lies in the cube, and is settled; so the cube is settled too.
pub record Closes (gives : Nogood → Type 0) (s t : Searching) (q : List Literal) (f g : Units) (closing : Nogood) : Type 0 where
  pub same : HasSameTask s t
  pub fuel : g ≡ f
  pub within : IsTrue (has_all q closing.lits)
  pub why : IsDerived s.program gives s.bound (nogood_at s.slots) closing
  pub settled : Settled s.program (used s) s.bound closing.lits
  pub decisions : t.decisions ≡ s.decisions
  pub derived : Derives gives s t
  pub learnt : t.learnt ≡ s.learnt
  pub restarts : t.restarts ≡ s.restarts
  pub last : t.last ≡ None

-- ---- Answer
-- the nogood of the cube and the decisions
abbrev pub blocking_nogood : List Literal → List Literal → Nogood
blocking_nogood q decisions = record { lits = q ++ decisions; base = base.Local }

-- The nogood is the last that was kept.
pub record IsLastKept (t : Searching) (n : Nogood) : Type 0 where
  pub id : ℕ
  pub last : t.last ≡ Some id
  pub kept : nogood_at t.slots id ≡ Some n

-- the nogood that leaves out all that shows nothing beside these answers
abbrev pub unshown_literal : Reasoning → Program → ℕ → Literal
unshown_literal Brave p a = F (var_of_atom p a)
unshown_literal Cautious p a = T (var_of_atom p a)

abbrev pub covering_nogood : Reasoning → Program → List Atoms → Nogood
covering_nogood r p K = record { lits = map (unshown_literal r p) (unshown r p K); base = base.Local }

-- In an enumeration the answer is known from now on, and its blocking nogood is kept. In an optimisation its cost is the bound. Where
-- consequences are sought, what it has in common with the other answers is known from now on.
abbrev pub Records : Mode → Searching → Searching → List Literal → Atoms → Type 0
Records mode.Enum s t q S = (t.known ≡ s.known ++ S ∷ []) × (t.bound ≡ s.bound) × IsLastKept t (blocking_nogood q s.decisions)
Records mode.Opt s t q S = (t.known ≡ s.known) × (t.bound ≡ Some (cost s.program S)) × (t.last ≡ None)
Records (mode.Consequences r) s t q S = (t.known ≡ common_sets r s.program (s.known ++ S ∷ [])) × (t.bound ≡ s.bound) × (t.last ≡ None)

-- A nogood that is kept is derived; or in an enumeration the answer's blocking one, where consequences are sought the one that leaves
-- out what shows nothing else.
abbrev pub IsDerivedOrBlocking : Mode → (Nogood → Type 0) → Searching → List Literal → Atoms → Nogood → Type 0
IsDerivedOrBlocking mode.Enum gives s q S n = IsDerived s.program gives s.bound (nogood_at s.slots) n ⊎ (n ≡ blocking_nogood q s.decisions)
IsDerivedOrBlocking mode.Opt gives s q S n = IsDerived s.program gives s.bound (nogood_at s.slots) n
IsDerivedOrBlocking (mode.Consequences r) gives s q S n = IsDerived s.program gives s.bound (nogood_at s.slots) n ⊎ (n ≡ covering_nogood r s.program (common_sets r s.program (s.known ++ S ∷ [])))

pub record Answers (gives : Nogood → Type 0) (s t : Searching) (q : List Literal) (f g : Units) (S : Atoms) : Type 0 where
  pub program : t.program ≡ s.program
  pub mode : t.mode ≡ s.mode
  pub cube : t.cube ≡ s.cube
  pub fuel : g ≡ f
  pub stable : IsTrue (is_stable s.program S)
  pub hit : IsTrue (hits (values s.program S) q)
  pub new : list_any (same_set S) (used s) ≡ false
  pub cheaper : IsSmaller (cost s.program S) s.bound
  pub settled : Settled s.program (used s ++ S ∷ []) s.bound (q ++ s.decisions)
  pub records : Records s.mode s t q S
  pub derived : (id : ℕ) (n : Nogood) → nogood_at t.slots id ≡ Some n → IsDerivedOrBlocking s.mode gives s q S n
  pub learnt : t.learnt ≡ s.learnt
  pub restarts : t.restarts ≡ s.restarts

-- ---- Restarted
-- So many nogoods were learnt since the last restart that there may be another.
abbrev pub IsDue : ℕ → Type 0
IsDue learnt = 64 ≤ learnt

pub record Restarts (gives : Nogood → Type 0) (s t : Searching) (f g : Units) : Type 0 where
  pub same : HasSameTask s t
  pub fuel : g ≡ f
  pub due : IsDue s.learnt
  pub level : level t.entries ≡ 0
  pub decisions : t.decisions ≡ []
  pub derived : Derives gives s t
  pub learnt : t.learnt ≡ 0
  pub restarts : t.restarts ≡ min (s.restarts + 1) (2 ^ 64 - 1)
  pub last : t.last ≡ None

-- ---- all of them
-- From s to t, where the cube is q, and the units go from f to g.
abbrev pub Steps : (Nogood → Type 0) → (List (Option Bool) → Type 0) → Searching → Searching → List Literal → Units → Units → Step → Type 0
Steps gives silent s t q f g step.Decided = Decides gives silent s t f g
Steps gives silent s t q f g step.Learnt = Learns gives s t q f g
Steps gives silent s t q f g (step.Answer S) = Answers gives s t q f g S
Steps gives silent s t q f g (step.Closed n) = Closes gives s t q f g n
Steps gives silent s t q f g (step.NoFuel x) = Stops gives s t q f g x
Steps gives silent s t q f g step.Restarted = Restarts gives s t f g

-- Memory was wanting: one unit may be burnt, and the task is the same but for the path.
pub record Fails (gives : Nogood → Type 0) (s t : Searching) (q : List Literal) (f g : Units) : Type 0 where
  pub program : t.program ≡ s.program
  pub mode : t.mode ≡ s.mode
  pub known : t.known ≡ s.known
  pub bound : t.bound ≡ s.bound
  pub fuel : (g ≡ f) ⊎ Burns s q f g
  pub derived : Derives gives s t

-- ---- on the path that is entered
abbrev pub IsStep : (Nogood → Type 0) → (List (Option Bool) → Type 0) → Searching → Searching → Units → Units → Step → Type 0
IsStep gives silent s t f g r = (q : List Literal) → s.cube ≡ Some q → Steps gives silent s t q f g r

abbrev pub IsFailure : (Nogood → Type 0) → Searching → Searching → Units → Units → Type 0
IsFailure gives s t f g = (q : List Literal) → s.cube ≡ Some q → Fails gives s t q f g

-- ---- beside the steps
-- whether a nogood of this base counts for a search, whatever answers it knows
abbrev pub is_of_use : Mode → Option (List ℤ) → Base → Bool
is_of_use m bound base.Pure = true
is_of_use mode.Enum bound (base.Below c) = false
is_of_use (mode.Consequences r) bound (base.Below c) = false
is_of_use mode.Opt bound (base.Below c) = is_bound_within bound c
is_of_use m bound base.Local = false
