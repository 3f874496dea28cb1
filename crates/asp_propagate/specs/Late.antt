-- Reasons that are kept, and reasons that are written when they are asked for.
use Rattle.std.specs.Prelude.{◌≡◌, ℕ, ◌+◌, ◌^◌, ◌<◌, ◌≤◌, ◌⊎◌, Bool, true, List, length, take, Option, Some, slice_index_or}
use Rattle.asp_vars.specs.Literals.{Literal, holds_in}
use Rattle.asp_vars.specs.declared.nogood.Nogood.{Nogood}
use Rattle.asp_trail.specs.declared.trail.Entry.{Entry}
use Rattle.asp_trail.specs.Reasons.{Stands, IsReason}
use Rattle.asp_store.specs.declared.stored_nogood.StoredNogood.{StoredNogood}
use Rattle.asp_store.specs.Keeping.{nogood_at}

-- Each entry whose reason isn't written follows from the entries before it, as the propagator says, by the name in the number.
abbrev pub AreExplained : (List Entry → Literal → ℕ → Type 0) → List Entry → Type 0
AreExplained explains entries = (i : ℕ) (d : Entry) (name : ℕ) → i < length entries → (slice_index_or entries i d).reason ≡ Some (2 ^ 31 + name) →
    (name < 2 ^ 31) × explains (take i entries) (slice_index_or entries i d).lit name

-- Each of the first entries was told.
abbrev pub AreTold : List (Option Bool) → ℕ → List Entry → Type 0
AreTold values n entries = (i : ℕ) (d : Entry) → i < n → i < length entries → holds_in values (slice_index_or entries i d).lit ≡ true

-- No entry whose reason isn't written stands behind so many.
abbrev pub AreLateBy : List Entry → ℕ → Type 0
AreLateBy entries n = (i : ℕ) (d : Entry) (name : ℕ) → i < length entries → (slice_index_or entries i d).reason ≡ Some (2 ^ 31 + name) → i ≤ n

-- The literal is an entry's that follows so.
pub record IsLate (explains : List Entry → Literal → ℕ → Type 0) (entries : List Entry) (l : Literal) (id : ℕ) : Type 0 where
  pub name : ℕ
  pub small : name < 2 ^ 31
  pub number : id ≡ 2 ^ 31 + name
  pub place : ℕ
  pub within : place < length entries
  pub lit : (d : Entry) → (slice_index_or entries place d).lit ≡ l
  pub named : (d : Entry) → (slice_index_or entries place d).reason ≡ Some id
  pub explained : explains (take place entries) l name

-- The number is a kept nogood's.
pub record IsKept (slots : List (Option StoredNogood)) (id : ℕ) (n : Nogood) : Type 0 where
  pub small : id < 2 ^ 31
  pub here : nogood_at slots id ≡ Some n

-- The reason under the number can be had: it is kept, or can be written.
abbrev pub CanAsk : (List Entry → Literal → ℕ → Type 0) → List (Option StoredNogood) → List Entry → Literal → ℕ → Type 0
CanAsk explains slots entries l id = ((n : Nogood) × IsKept slots id n) ⊎ IsLate explains entries l id

-- What is written is a reason of the literal's entry, and the propagator may write it.
pub record IsWritten (late : Nogood → Type 0) (entries : List Entry) (l : Literal) (id : ℕ) (n : Nogood) : Type 0 where
  pub large : 2 ^ 31 ≤ id
  pub passes : late n
  pub reason : (i b : ℕ) → Stands entries l i b → IsReason entries i l n.lits

abbrev pub IsSaid : (Nogood → Type 0) → List (Option StoredNogood) → List Entry → Literal → ℕ → Nogood → Type 0
IsSaid late slots entries l id n = IsKept slots id n ⊎ IsWritten late entries l id n

-- The nogood is kept, or passes, as what the propagator may write does, or what it may give.
abbrev pub IsAtHand : (Nogood → Type 0) → List (Option StoredNogood) → Nogood → Type 0
IsAtHand passes slots n = ((id : ℕ) × (nogood_at slots id ≡ Some n)) ⊎ passes n
