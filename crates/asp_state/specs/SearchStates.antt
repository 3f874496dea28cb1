-- What a search has on its trail under a cube, and which nogoods it keeps.
use Rattle.std.specs.Prelude.{◌≡◌, ℕ, ◌<◌, ◌^◌, ◌⊎◌, ◌||◌, Bool, true, false, List, [], fold, Option, Some, None, is_some, if◌then◌else◌, ℤ, IsTrue}
use Rattle.std.specs.List.{All, AllByRecursion, Any}
use Rattle.asp_model.specs.declared.program.Body.{Body}
use Rattle.asp_model.specs.declared.program.Program.{Program}
use Rattle.asp_vars.specs.Literals.{Literal, complement, has_literal}
use Rattle.asp_vars.specs.Numbering.{var_count, bodies_of}
use Rattle.asp_vars.specs.Tabled.{bound_of, form_literals}
use Rattle.asp_vars.specs.Completion.{completion, is_barred}
use Rattle.asp_vars.specs.declared.nogood.Nogood.{Nogood}
use Rattle.asp_vars.specs.declared.nogood.Base.TheVariants as base
use Rattle.asp_trail.specs.declared.trail.Entry.{Entry}
use Rattle.asp_trail.specs.Entries.{assignment}
use Rattle.asp_trail.specs.Trails.{IsVar}
use Rattle.asp_store.specs.declared.stored_nogood.StoredNogood.{StoredNogood}
use Rattle.asp_store.specs.declared.stored_nogood.Kind.TheVariants as kind
use Rattle.asp_store.specs.Keeping.{kept_at}
use Rattle.asp_order.specs.Heaps.{Ranking}
use Rattle.asp_order.specs.Waiting.{HasVars, AreWaiting, fresh, all_bumped, aged}
use Rattle.asp_trail_laws.specs.Starts.{AreStarts}
use Rattle.asp_trail_laws.specs.Fixpoint.{WereAtFixpoint}
use Rattle.asp_propagate.specs.Propagating.{Propagating}

-- There is no cube before a path is entered, nor after one was lost. Under one that clashes nothing is tried.
pub record SearchView : Type 0 where
  pub program : Program
  pub bound : Option (List ℤ)
  pub cube : Option (List Literal)
  pub clashing : Bool
  pub decisions : List Literal
  pub entries : List Entry
  pub slots : List (Option StoredNogood)
  pub ranking : Ranking

-- the values of the variables
abbrev pub values_of : SearchView → List (Option Bool)
values_of t = assignment (var_count t.program) t.entries

-- the part of it that an engine keeps
abbrev pub path_of : SearchView → Propagating
path_of t = record { program = t.program; entries = t.entries; slots = t.slots; bound = t.bound }

-- It has a literal and its complement.
pub record Clashes (cube : List Literal) : Type 0 where
  pub lit : Literal
  pub has : IsTrue (has_literal cube lit)
  pub opposite : IsTrue (has_literal cube (complement lit))

-- It has this literal and its complement.
abbrev pub HasBoth : List Literal → Literal → Type 0
HasBoth cube l = IsTrue (has_literal cube l) × IsTrue (has_literal cube (complement l))

-- If there is a cube and a literal, the cube has it and its complement.
abbrev pub HasClash : Option (List Literal) → Option Literal → Type 0
HasClash (Some cube) (Some l) = HasBoth cube l
HasClash (Some cube) None = Unit {0}
HasClash None l = Unit {0}

-- A path was entered whose cube doesn't clash.
pub record IsUnder (t : SearchView) (cube : List Literal) : Type 0 where
  pub cube_is : t.cube ≡ Some cube
  pub fixpoint : t.clashing ≡ false

-- ---- the ranking in which a search begins
-- a bump for each place where a variable stands in the nogood
abbrev pub with_places : Ranking → List Literal → Ranking
with_places ranking n = all_bumped ranking n

-- with a bump for each place where a variable stands in a nogood of the completion
abbrev pub completed_ranking : Program → Ranking → Ranking
completed_ranking p ranking = fold with_places ranking (completion p)

-- whether the completion doesn't list the body's definition: of a weight body it has nothing, and of a constraint's at most the literals alone
abbrev pub is_unlisted : Program → Body → Bool
is_unlisted p b = is_some (bound_of b) || is_barred p b

-- the literals of such a body; of any other, in whose definition each literal stands twice unless it is alone, none
abbrev pub unlisted_literals : Program → Body → List Literal
unlisted_literals p b = if is_unlisted p b then form_literals p b else []

-- with a bump for each place where a variable stands in one of these bodies, if its definition isn't listed
abbrev pub with_bodies : Program → Ranking → List Body → Ranking
with_bodies p ranking bodies = fold (λ r b. with_places r (unlisted_literals p b)) ranking bodies

-- with a bump for each place where a variable stands in such a body
abbrev pub with_unlisted : Program → Ranking → Ranking
with_unlisted p ranking = with_bodies p ranking (bodies_of p)

-- A bump for each place where a variable stands in a body whose definition isn't listed, and then one for each place in a nogood of the
-- completion, which counts about eight times as much.
abbrev pub first_ranking : Program → Ranking
first_ranking p = completed_ranking p (aged (with_unlisted p (fresh (var_count p))) 34)

-- ---- what every state keeps
-- what is kept forever
abbrev pub stays : Nogood → Option StoredNogood
stays n = Some (record { nogood = n; kind = kind.Forever; locked = false })

-- a nogood of the completion, kept forever
abbrev pub forever : List Literal → Option StoredNogood
forever n = stays (record { lits = n; base = base.Pure })

-- Such a nogood is kept and never dropped.
pub record IsForever (slots : List (Option StoredNogood)) (n : List Literal) : Type 0 where
  pub id : ℕ
  pub kept : StoredNogood
  pub stands : kept_at slots id ≡ Some kept
  pub always : kept.kind ≡ kind.Forever
  pub nogood : kept.nogood ≡ record { lits = n; base = base.Pure }

abbrev pub KeepsCompletion : Program → List (Option StoredNogood) → Type 0
KeepsCompletion p slots = AllByRecursion (IsForever slots) (completion p)

-- The nogoods were added, to be kept forever, and no others. All that were kept are as they were.
pub record AddsForever (ns : List Nogood) (old new : List (Option StoredNogood)) : Type 0 where
  pub stay : (id : ℕ) (k : StoredNogood) → kept_at old id ≡ Some k → kept_at new id ≡ Some k
  pub each : All (λ n. (id : ℕ) × (kept_at new id ≡ stays n)) ns
  pub only : (id : ℕ) (k : StoredNogood) → kept_at new id ≡ Some k → (kept_at old id ≡ Some k) ⊎ Any (λ n. Some k ≡ stays n) ns

-- The completion is kept forever, and nothing else is kept.
pub record KeepsCompletionAlone (p : Program) (slots : List (Option StoredNogood)) : Type 0 where
  pub each : KeepsCompletion p slots
  pub only : (id : ℕ) (k : StoredNogood) → kept_at slots id ≡ Some k → Any (λ n. Some k ≡ forever n) (completion p)

-- The trail begins with the cube and the decisions, and the completion was at fixpoint before each decision.
pub record IsBegun (p : Program) (cube decisions : List Literal) (entries : List Entry) : Type 0 where
  pub starts : AreStarts cube decisions entries
  pub fixpoint : WereAtFixpoint (var_count p) (completion p) entries

-- under a cube, or none
abbrev pub IsEntered : Program → Option (List Literal) → Bool → List Literal → List Entry → Type 0
IsEntered p None clashing decisions entries = (clashing ≡ false) × (decisions ≡ []) × (entries ≡ [])
IsEntered p (Some cube) true decisions entries = Clashes cube × (decisions ≡ [])
IsEntered p (Some cube) false decisions entries = IsBegun p cube decisions entries

pub record IsSearchState (p : Program) (cube : Option (List Literal)) (clashing : Bool) (decisions : List Literal) (entries : List Entry)
    (slots : List (Option StoredNogood)) (ranking : Ranking) : Type 0 where
  pub few : var_count p < 2 ^ 31
  pub entered : IsEntered p cube clashing decisions entries
  pub ranked : HasVars (var_count p) ranking
  pub waiting : AreWaiting (var_count p) entries ranking
  pub completed : KeepsCompletion p slots

-- ---- entering a cube
-- the literals are of the program's variables
abbrev pub AreOf : Program → List Literal → Type 0
AreOf p lits = All (λ l. IsVar (var_count p) l.var) lits
