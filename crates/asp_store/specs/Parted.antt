-- Numbers of nogoods that aren't watched.
use Rattle.std.specs.Prelude.{◌≡◌, ℕ, ◌+◌, ◌<◌, ◌≤◌, ◌⊎◌, List, Some, slice_get}

-- Those from the place `first` on and before the place `last` are to be looked at, and the others are retired.
pub record Parted : Type 0 where
  pub items : List ℕ
  pub first : ℕ
  pub last : ℕ

-- The number stands somewhere.
abbrev pub IsApart : Parted → ℕ → Type 0
IsApart a id = (p : ℕ) × (slice_get a.items p ≡ Some id)

-- The number is to be looked at, and stands at this place or behind it.
abbrev pub IsFrom : Parted → ℕ → ℕ → Type 0
IsFrom a i id = (p : ℕ) × (i ≤ p) × (p < a.last) × (slice_get a.items p ≡ Some id)

-- One more is to be looked at.
pub record Adds (old new : Parted) (id : ℕ) : Type 0 where
  pub here : IsFrom new new.first id
  pub apart : (k : ℕ) → IsApart old k → IsApart new k
  pub waits : (k : ℕ) → IsFrom old old.first k → IsFrom new new.first k

-- The i-th is to be looked at no more, and is one less. All others are still, and those that stood behind it stand now from
-- the place `next` on.
pub record Passes (old new : Parted) (i next : ℕ) : Type 0 where
  pub begun : new.first ≤ next
  pub fewer : new.last + (old.first + 1) ≡ old.last + new.first
  pub left : new.last + (i + 1) ≡ old.last + next
  pub waits : (k : ℕ) → IsFrom old old.first k → (slice_get old.items i ≡ Some k) ⊎ IsFrom new new.first k
  pub behind : (k : ℕ) → IsFrom old i k → (slice_get old.items i ≡ Some k) ⊎ IsFrom new next k

-- The i-th is retired: it stands there still, as all others do.
pub record Retires (old new : Parted) (i next : ℕ) : Type 0 where
  pub passes : Passes old new i next
  pub apart : (k : ℕ) → IsApart old k → IsApart new k

-- The i-th is gone, and no other one.
pub record Drops (old new : Parted) (i : ℕ) : Type 0 where
  pub passes : Passes old new i i
  pub apart : (k : ℕ) → IsApart old k → (slice_get old.items i ≡ Some k) ⊎ IsApart new k
