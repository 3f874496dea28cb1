-- What a store is, and how it fits a trail.
use Rattle.std.specs.Prelude.{◌≡◌, ◌≢◌, ℕ, ◌^◌, ◌<◌, ◌⊎◌, Bool, List, [], ◌∷◌, ◌++◌, Option, Some, None, IsTrue, if◌then◌else◌, length, slice_get, slice_set, count_by}
use Rattle.asp_vars.specs.Literals.{Literal}
use Rattle.asp_vars.specs.declared.nogood.Nogood.{Nogood}
use Rattle.asp_trail.specs.Trails.{Trailed}
use Rattle.asp_store.specs.declared.stored_nogood.StoredNogood.{StoredNogood}
use Rattle.asp_store.specs.declared.stored_nogood.Kind.{Kind}
use Rattle.asp_store.specs.declared.watches.Watches.{Watches}
use Rattle.asp_arena.specs.Rows.{row_at}
use Rattle.asp_store.specs.Keeping.{kept_at, nogood_at, is_extra, is_from_propagator, comes_from_propagator, with_lock, IsAddedAt}
use Rattle.asp_store.specs.Pairs.{pair_at}
use Rattle.asp_store.specs.Parted.{Parted, IsFrom}
use Rattle.asp_store.specs.Fitting.{AreFit, HaveReasons}
use Rattle.asp_store.specs.Sounding.{IsNet}

-- Variables are 1 to vars. Nogoods have numbers. Each is watched by two of its literals, which come first in its row, or its
-- number stands apart. Numbers of nogoods that propagators gave are listed, in no order, with some that had one once.
pub record Stored : Type 0 where
  pub vars : ℕ
  pub slots : List (Option StoredNogood)
  pub rows : List (List Literal)
  pub apart : Parted
  pub given : List ℕ

-- The trail's variables are the store's, each literal that was implied has a reason that is kept, and the watches are as they must be.
pub record Fits (s : Stored) (t : Trailed) : Type 0 where
  pub same_vars : t.vars ≡ s.vars
  pub reasons : HaveReasons s.slots t.entries
  pub fit : AreFit s.slots s.rows s.apart t

abbrev pub locked_at : Stored → ℕ → Bool → Stored
locked_at s id b = record s { slots = slice_set s.slots id (with_lock b (kept_at s.slots id)) }

-- one nogood less
abbrev pub removed : Stored → ℕ → Stored
removed s id = record s { slots = slice_set s.slots id None; rows = slice_set s.rows id [] }

-- all nogoods that aren't watched are to be looked at
abbrev pub recalled : Stored → Stored
recalled s = record s { apart = record s.apart { first = 0; last = length s.apart.items } }

-- The number is in the list.
abbrev pub Has : List ℕ → ℕ → Type 0
Has given k = (p : ℕ) × (slice_get given p ≡ Some k)

-- Each nogood that a propagator gave has its number in the list.
abbrev pub AreTracked : List (Option StoredNogood) → List ℕ → Type 0
AreTracked slots given = (id : ℕ) → IsTrue (is_from_propagator (kept_at slots id)) → Has given id

-- the numbers with one more, where a propagator gave the nogood
abbrev pub with_given : Kind → ℕ → List ℕ → List ℕ
with_given kind id given = if comes_from_propagator kind then given ++ id ∷ [] else given

-- One nogood more, which is to be looked at whole. All others are as they were.
pub record IsAdded (old new : Stored) (id : ℕ) (n : Nogood) (kind : Kind) : Type 0 where
  pub vars : new.vars ≡ old.vars
  pub slots : IsAddedAt old.slots new.slots id n kind
  pub pair : pair_at new.rows id ≡ None
  pub given : new.given ≡ with_given kind id old.given
  pub rows : (k : ℕ) → k ≢ id → row_at new.rows k ≡ row_at old.rows k
  pub waits : IsFrom new.apart new.apart.first id
  pub apart : (k : ℕ) → IsFrom old.apart old.apart.first k → IsFrom new.apart new.apart.first k

-- Nogoods were dropped. All others are as they were.
pub record Loses (old new : Stored) : Type 0 where
  pub vars : new.vars ≡ old.vars
  pub apart : new.apart ≡ old.apart
  pub each : (id : ℕ) → ((kept_at new.slots id ≡ None) × (pair_at new.rows id ≡ None)) ⊎ ((kept_at new.slots id ≡ kept_at old.slots id) × (pair_at new.rows id ≡ pair_at old.rows id))

-- No kept nogood is retired.
abbrev pub AreActive : Stored → Type 0
AreActive s = (id : ℕ) (n : Nogood) → nogood_at s.slots id ≡ Some n → pair_at s.rows id ≡ None → IsFrom s.apart s.apart.first id

-- What every store keeps: each kept nogood that is watched stands in two lists, and each other one apart.
pub record IsStore (vars : ℕ) (slots : List (Option StoredNogood)) (w : Watches) (extra : ℕ) (given : List ℕ) : Type 0 where
  pub few : vars < 2 ^ 31
  pub net : IsNet vars slots w
  pub counted : extra ≡ count_by is_extra slots
  pub tracked : AreTracked slots given
