-- The calls beside a step.
use Rattle.std.specs.Prelude.{◌≡◌, ℕ, ◌+◌, ◌≤◌, nat_le, ◌==◌, Bool, false, ◌&&◌, not, ◌⊎◌, List, length, Option, Some, None, option_and_then, if◌then◌else◌, [], ◌∷◌}
use Rattle.std.specs.List.{All, list_any}
use Rattle.asp_model.specs.declared.program.Program.{Program}
use Rattle.asp_model.specs.declared.results.Mode.{Mode}
use Rattle.asp_model.specs.declared.results.Reasoning.{Reasoning}
use Rattle.asp_model.specs.Asked.{reasoning_of}
use Rattle.asp_model.specs.Consequences.{unshown}
use Rattle.asp_model.specs.Sets.{Atoms}
use Rattle.asp_vars.specs.Literals.{Literal}
use Rattle.asp_vars.specs.Entailment.{IsSharedBy}
use Rattle.asp_vars.specs.Numbering.{var_count}
use Rattle.asp_vars.specs.declared.nogood.Nogood.{Nogood}
use Rattle.asp_trail.specs.Entries.{level}
use Rattle.asp_trail.specs.Trails.{IsVar}
use Rattle.asp_store.specs.declared.stored_nogood.StoredNogood.{StoredNogood}
use Rattle.asp_store.specs.declared.stored_nogood.Kind.TheVariants as kind
use Rattle.asp_store.specs.Keeping.{is_local_base, kept_at, nogood_at, unless_local, IsAddedAt}
use Rattle.asp_search_laws.specs.Searching.{Searching}
use Rattle.asp_search_laws.specs.Steps.{covering_nogood}
use Rattle.asp_state.specs.SearchStates.{first_ranking}

-- a search that knows no answer, has no bound and has entered no path, with the nogoods that it keeps
abbrev pub new_search : Program → Mode → List (Option StoredNogood) → Searching
new_search p m slots = record {
  program = p;
  mode = m;
  cube = None;
  clashing = false;
  known = [];
  bound = None;
  entries = [];
  decisions = [];
  slots = slots;
  ranking = first_ranking p;
  restarts = 0;
  learnt = 0;
  last = None;
}

-- A path is entered, and else nothing has changed but the order.
pub record Enters (s t : Searching) (q : List Literal) : Type 0 where
  pub same : t ≡ record s { cube = Some q; clashing = t.clashing; entries = t.entries; decisions = []; ranking = t.ranking; learnt = 0; last = None }
  pub level : level t.entries ≡ 0

-- No path is entered, and else nothing has changed but the order.
abbrev pub Leaves : Searching → Searching → Type 0
Leaves s t = t ≡ record s { cube = None; clashing = t.clashing; entries = t.entries; decisions = []; ranking = t.ranking; last = None }

-- No path is entered and no answer is known. Of the nogoods those are gone that hold for one search alone, and else nothing has changed but
-- the order.
pub record Forgets (s t : Searching) : Type 0 where
  pub same : t ≡ record s { cube = None; clashing = false; known = []; entries = []; decisions = []; slots = t.slots; ranking = t.ranking; last = None }
  pub nogoods : (id : ℕ) → kept_at t.slots id ≡ unless_local (kept_at s.slots id)

-- Entries and nogoods were added, and nothing else has changed.
pub record IsAhead (s t : Searching) : Type 0 where
  pub same : t ≡ record s { entries = t.entries; slots = t.slots }
  pub longer : length s.entries ≤ length t.entries

-- The same, with at most one entry a variable.
pub record Propagates (s t : Searching) : Type 0 where
  pub ahead : IsAhead s t
  pub few : length t.entries ≤ var_count t.program + 1

-- This is known, and nothing else has changed but the nogoods: one is kept that leaves out what shows nothing else.
pub record Adopts (s t : Searching) (K : List Atoms) : Type 0 where
  pub same : t ≡ record s { known = K; slots = t.slots; last = None }
  pub nogoods : (r : Reasoning) → reasoning_of s.mode ≡ Some r → (id : ℕ) (n : Nogood) → nogood_at t.slots id ≡ Some n → (nogood_at s.slots id ≡ Some n) ⊎ (n ≡ covering_nogood r s.program K)

-- how many of the program's atoms are still to be shown beside these answers: none where there is no answer
abbrev pub count_unshown : Reasoning → Program → List Atoms → Option ℕ
count_unshown r p [] = None
count_unshown r p (S ∷ K) = Some (length (unshown r p (S ∷ K)))

-- the same beside the answers known, where consequences are sought
abbrev pub unshown_by : Option Reasoning → Program → List Atoms → Option ℕ
unshown_by None p K = None
unshown_by (Some r) p K = count_unshown r p K

abbrev pub left_to_show : Searching → Option ℕ
left_to_show s = unshown_by (reasoning_of s.mode) s.program s.known

-- Another search's nogood is kept until it is dropped, and else nothing has changed.
pub record Imports (s t : Searching) (n : Nogood) : Type 0 where
  pub same : t ≡ record s { slots = t.slots }
  pub id : ℕ
  pub added : IsAddedAt s.slots t.slots id n kind.Learnt

-- ---- nogoods for others
-- It counts for other searches, and has no more than so many literals.
abbrev pub is_shared : ℕ → Nogood → Bool
is_shared longest n = not (is_local_base n.base) && nat_le (length n.lits) longest

abbrev pub only_shared : ℕ → Option Nogood → Option Nogood
only_shared longest None = None
only_shared longest (Some n) = if is_shared longest n then Some n else None

-- It is of the program's variables, and holds for every search of the program: what a log of nogoods has.
pub record IsShared (p : Program) (n : Nogood) : Type 0 where
  pub variables : All (λ l. IsVar (var_count p) l.var) n.lits
  pub shared : IsSharedBy p n.base n.lits

-- the nogood that the last step learnt, or by which it blocks an answer
abbrev pub kept_last : Searching → Option Nogood
kept_last s = option_and_then (λ id. nogood_at s.slots id) s.last

-- the nogood that the last step learnt, if others can use it and it has no more than so many literals
abbrev pub exported : ℕ → Searching → Option Nogood
exported longest s = only_shared longest (kept_last s)

-- ---- a literal by which a path can be split
abbrev pub has_var : List Literal → ℕ → Bool
has_var cube v = list_any (λ l. l.var == v) cube

-- It is of one of the program's variables, which the cube hasn't got.
abbrev pub IsOpen : Program → List Literal → Literal → Type 0
IsOpen p cube l = IsVar (var_count p) l.var × (has_var cube l.var ≡ false)
