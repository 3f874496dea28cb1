-- A trail with what follows it: a store of nogoods, and a propagator.
use Rattle.std.specs.Prelude.{◌≡◌, ◌≢◌, ℕ, ◌<◌, ◌≤◌, ◌==◌, ◌||◌, ◌⊎◌, Bool, true, false, List, [], ◌∷◌, ◌++◌, take, length, Option, Some, None, ℤ, IsTrue, slice_index_or, slice_set}
use Rattle.std.specs.List.{All}
use Rattle.asp_model.specs.declared.program.Program.{Program}
use Rattle.asp_vars.specs.Literals.{Literal}
use Rattle.asp_vars.specs.Numbering.{var_count}
use Rattle.asp_vars.specs.declared.nogood.Nogood.{Nogood}
use Rattle.asp_trail.specs.declared.trail.Entry.{Entry}
use Rattle.asp_trail.specs.Entries.{assignment, level}
use Rattle.asp_trail.specs.Trails.{Trailed}
use Rattle.asp_trail.specs.Told.{Told}
use Rattle.asp_trail.specs.Fixpoint.{is_at_fixpoint}
use Rattle.asp_trail.specs.Reasons.{IsReason}
use Rattle.asp_store.specs.declared.stored_nogood.StoredNogood.{StoredNogood}
use Rattle.asp_store.specs.declared.stored_nogood.Kind.{Kind}
use Rattle.asp_store.specs.declared.stored_nogood.Kind.TheVariants as kind
use Rattle.asp_store.specs.Keeping.{kept_at, nogood_at, IsAddedAt}
use Rattle.asp_store.specs.Fitting.{IsImpliedAt}
use Rattle.asp_propagate.specs.Late.{AreExplained, AreLateBy}
use Rattle.asp_store.specs.Storing.{Stored, Fits, IsAdded}

-- Literals of the program's variables hold, nogoods are kept, and maybe a bound stands.
pub record Propagating : Type 0 where
  pub program : Program
  pub entries : List Entry
  pub slots : List (Option StoredNogood)
  pub bound : Option (List ℤ)

-- the values of the variables
abbrev pub values_of : Propagating → List (Option Bool)
values_of s = assignment (var_count s.program) s.entries

-- one entry more
abbrev pub with_entry : Propagating → Literal → ℕ → Option ℕ → Propagating
with_entry s l b reason = record s { entries = s.entries ++ record { lit = l; level = b; reason = reason } ∷ [] }

-- One nogood more, under a number that had none.
pub record Keeps (old new : Propagating) (id : ℕ) (n : Nogood) (kind : Kind) : Type 0 where
  pub same : new ≡ record old { slots = new.slots }
  pub slots : IsAddedAt old.slots new.slots id n kind

-- one nogood less
abbrev pub without_nogood : Propagating → ℕ → Propagating
without_nogood s id = record s { slots = slice_set s.slots id None }

abbrev pub is_reason : Option ℕ → ℕ → Bool
is_reason None id = false
is_reason (Some j) id = j == id

-- An entry was implied by the nogood under this number.
abbrev pub is_named : List Entry → ℕ → Bool
is_named [] id = false
is_named (e ∷ es) id = is_reason e.reason id || is_named es id

-- No entry was implied by the nogood under this number.
abbrev pub IsUnnamed : List Entry → ℕ → Type 0
IsUnnamed entries id = (i : ℕ) (d : Entry) → i < length entries → (slice_index_or entries i d).reason ≢ Some id

-- The literal follows by the nogood under this number, which is kept.
abbrev pub IsImplied : Propagating → Literal → ℕ → Type 0
IsImplied s l id = (n : Nogood) × (nogood_at s.slots id ≡ Some n) × IsReason (with_entry s l (level s.entries) (Some id)).entries (length s.entries) l n.lits

-- ---- what every engine keeps
-- A propagator was told of the first n entries.
pub record WasTold (told : Told) (trail : Trailed) (n : ℕ) : Type 0 where
  pub vars : trail.vars ≡ var_count told.program
  pub begun : n ≤ length trail.entries
  pub values : told.values ≡ assignment trail.vars (take n trail.entries)

abbrev pub AreUnlocked : List (Option StoredNogood) → Type 0
AreUnlocked slots = (id : ℕ) (k : StoredNogood) → kept_at slots id ≡ Some k → k.locked ≡ false

-- The store fits the trail, which has room for all variables, and the propagator was told of the first n entries. It can explain
-- those whose reasons no nogood is kept for: it was told of all entries before such a one.
pub record IsFollowed (why : Program → List Entry → Literal → ℕ → Type 0) (t : Told) (store : Stored) (trail : Trailed) (n : ℕ) : Type 0 where
  pub told : WasTold t trail n
  pub room : trail.vars ≤ trail.room
  pub fits : Fits store trail
  pub unlocked : AreUnlocked store.slots
  pub explained : AreExplained (why t.program) trail.entries
  pub late_told : AreLateBy trail.entries n

-- ---- propagation
-- It passes, came from a propagator, and isn't locked.
pub record IsGiven (gives : Nogood → Type 0) (k : StoredNogood) : Type 0 where
  pub passes : gives k.nogood
  pub kind : k.kind ≡ kind.Given
  pub unlocked : k.locked ≡ false

-- Nogoods were added, each of them given, and all that were kept are as they were.
pub record Adds (gives : Nogood → Type 0) (old new : List (Option StoredNogood)) : Type 0 where
  pub stay : (id : ℕ) (k : StoredNogood) → kept_at old id ≡ Some k → kept_at new id ≡ Some k
  pub given : (id : ℕ) (k : StoredNogood) → kept_at new id ≡ Some k → (kept_at old id ≡ Some k) ⊎ IsGiven gives k

-- Entries were added, each of them implied at the level that stands.
abbrev pub Implies : List Entry → List Entry → Type 0
Implies old new = (fs : List Entry) × (new ≡ old ++ fs) × All (IsImpliedAt (level old)) fs

-- What was told, the bound, the slots and the entries, before and after: nogoods and entries are added, and nothing else changes.
pub record GoesOn (gives : Nogood → Type 0) (told after : Told) (bound now : Option (List ℤ)) (slots kept : List (Option StoredNogood)) (old new : List Entry) : Type 0 where
  pub program : after.program ≡ told.program
  pub bound_stays : now ≡ bound
  pub adds : Adds gives slots kept
  pub implies : Implies old new

-- No nogood that is kept is unit or violated.
abbrev pub AreAtFixpoint : List (Option StoredNogood) → List (Option Bool) → Type 0
AreAtFixpoint slots a = (id : ℕ) (n : Nogood) → nogood_at slots id ≡ Some n → IsTrue (is_at_fixpoint a n.lits)

-- Nor has the propagator anything to say.
pub record IsFixpoint (silent : List (Option Bool) → Type 0) (slots : List (Option StoredNogood)) (a : List (Option Bool)) : Type 0 where
  pub fixpoint : AreAtFixpoint slots a
  pub says_nothing : silent a

-- The propagator gave a nogood that is unit or violated, which is kept.
pub record HasGiven (gives : Nogood → Type 0) (a : List (Option Bool)) (old new : Stored) : Type 0 where
  pub nogood : Nogood
  pub id : ℕ
  pub added : IsAdded old new id nogood kind.Given
  pub passes : gives nogood
  pub wanted : is_at_fixpoint a nogood.lits ≡ false

-- What comes of asking: the propagator is silent, or a nogood was kept, or an entry came.
abbrev pub Asked : (List (Option Bool) → Type 0) → (Nogood → Type 0) → List (Option Bool) → Stored → Stored → List Entry → List Entry → Bool → Type 0
Asked silent gives a old new es fs false = (new ≡ old) × (fs ≡ es) × silent a
Asked silent gives a old new es fs true = HasGiven gives a old new ⊎ length es < length fs

-- ---- reduction
-- Nogoods were dropped, but none that is kept forever or that an entry names. All others are as they were.
pub record IsReduced (entries : List Entry) (old new : List (Option StoredNogood)) : Type 0 where
  pub count : length new ≡ length old
  pub each : (id : ℕ) → (kept_at new id ≡ kept_at old id) ⊎ (kept_at new id ≡ None)
  pub forever : (id : ℕ) (k : StoredNogood) → kept_at old id ≡ Some k → k.kind ≡ kind.Forever → kept_at new id ≡ Some k
  pub named : (i : ℕ) (d : Entry) (id : ℕ) → i < length entries → (slice_index_or entries i d).reason ≡ Some id → kept_at new id ≡ kept_at old id
