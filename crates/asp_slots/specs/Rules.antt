-- The rule of the word that counts the numbers, and what each step tells.
use Rattle.std.specs.Prelude.{◌≡◌, ◌≢◌, ℕ, ◌+◌, ◌<◌, ◌≤◌, nat_le, if◌then◌else◌, List, [], ◌∷◌, ◌++◌, length, slice_index}
use mathlib.Core.Option.{some}
use lib.ListN.{get_elem?}
use Rattle.atomic_table.specs.Table.{State, Me, Step}
use Rattle.asp_slots.specs.declared.view.View.{View}

-- how many slots there are
abbrev pub SLOT_COUNT : ℕ
SLOT_COUNT = 65536

-- the number is none of these
abbrev pub NotIn : ℕ → List ℕ → Type 0
NotIn c [] = Unit {0}
NotIn c (x ∷ xs) = (x ≢ c) × NotIn c xs

-- no number is there twice
abbrev pub Distinct : List ℕ → Type 0
Distinct [] = Unit {0}
Distinct (x ∷ xs) = NotIn x xs × Distinct xs

-- each is below n
abbrev pub Within : ℕ → List ℕ → Type 0
Within n [] = Unit {0}
Within n (x ∷ xs) = (x < n) × Within n xs

-- no number is in both lists
abbrev pub Apart : List ℕ → List ℕ → Type 0
Apart [] ys = Unit {0}
Apart (x ∷ xs) ys = NotIn x ys × Apart xs ys

abbrev pub larger : ℕ → ℕ → ℕ
larger a b = if nat_le b a then a else b

-- what the first seat knows
abbrev pub opened : View
opened = record { seen = 0; own = [] }

-- the seat saw that n were drawn
abbrev pub seeing : ℕ → View → View
seeing n v = record { seen = n; own = v.own }

-- the seat drew n
abbrev pub drawing : ℕ → View → View
drawing n v = record { seen = n + 1; own = n ∷ v.own }

-- From v to w the seat drew a number, not one of those that it drew before.
abbrev pub Draws : View → View → Type 0
Draws v w = (n : ℕ) × (n < SLOT_COUNT) × (v.seen ≤ n) × NotIn n v.own × (w ≡ drawing n v)

-- what a seat knows that is split from one
abbrev pub fresh : View → View
fresh v = record { seen = v.seen; own = [] }

-- what a seat knows to which another was joined
abbrev pub merged : View → View → View
merged v w = record { seen = larger v.seen w.seen; own = v.own ++ w.own }

-- what the rule says of one view
pub record Member (count : ℕ) (v : View) : Type 0 where
  pub seen : v.seen ≤ count
  pub own : Within v.seen v.own
  pub distinct : Distinct v.own

-- the rule: one word, and what each view has and any two
pub record Numbered {S : Type 0} (s : State S View) : Type 0 where
  pub one_word : length s.words ≡ 1
  pub few : slice_index s.words 0 ≤ SLOT_COUNT
  pub each : (j : ℕ) (v : View) → get_elem? s.views j ≡ some v → Member (slice_index s.words 0) v
  pub apart : (i j : ℕ) (v w : View) → i ≢ j → get_elem? s.views i ≡ some v → get_elem? s.views j ≡ some w → Apart v.own w.own

-- a look at the word
abbrev pub looks : {S : Type 0} → Step S → Me S View → ℕ → Me S View → Type 0
looks st m found n = (n.1 ≡ m.1) × (n.0 ≡ seeing found m.0) × (m.0.seen ≤ found) × (found ≤ SLOT_COUNT)

-- the word is raised by one, or another number was drawn before
abbrev pub raises : {S : Type 0} → Step S → Me S View → ℕ → Me S View → Type 0
raises st m found n = (n.1 ≡ m.1) × (m.0.seen ≤ found) × (found ≤ SLOT_COUNT)
    × (found ≡ st.first → (n.0 ≡ drawing found m.0) × NotIn found m.0.own)
    × (found ≢ st.first → n.0 ≡ seeing found m.0)

-- what came by a join is within the count, and no number was drawn twice
abbrev pub compares : {S : Type 0} → Step S → Me S View → ℕ → Me S View → Type 0
compares st m found n = (n.1 ≡ m.1) × (n.0 ≡ m.0) × (m.0.seen ≤ found) × (found ≤ SLOT_COUNT) × Member m.0.seen m.0
