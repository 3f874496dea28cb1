-- A binary heap in a list, and where each variable of it stands.
use Rattle.std.specs.Prelude.{◌≡◌, ◌≢◌, ℕ, ◌+◌, ◌-◌, ◌*◌, ◌/◌, ◌^◌, ◌<◌, ◌≤◌, Bool, true, List, length, slice_index, count_by}
use Rattle.std.specs.List.{All}
use Rattle.asp_order.specs.Heaps.{is_in}

-- A greater rank comes first: that of a greater activity, then that of a smaller number.
abbrev pub rank : List ℕ → ℕ → ℕ
rank activities v = slice_index activities v * 2 ^ 32 + (2 ^ 32 - v)

abbrev pub rank_at : List ℕ → List ℕ → ℕ → ℕ
rank_at activities items k = rank activities (slice_index items k)

abbrev pub parent : ℕ → ℕ
parent k = (k - 1) / 2

-- Among the first n places none has a greater rank than its parent.
abbrev pub IsHeap : (ℕ → ℕ) → ℕ → Type 0
IsHeap r n = (k : ℕ) → 0 < k → k < n → r k ≤ r (parent k)

-- The same but for one place, which may have a greater rank than its parent.
pub record MayRise (r : ℕ → ℕ) (n at : ℕ) : Type 0 where
  pub others : (k : ℕ) → 0 < k → k < n → k ≢ at → r k ≤ r (parent k)
  pub around : (k : ℕ) → 0 < k → k < n → parent k ≡ at → 0 < at → r k ≤ r (parent at)

-- The same but for one place, whose children may have a greater rank than it.
pub record MaySink (r : ℕ → ℕ) (n at : ℕ) : Type 0 where
  pub others : (k : ℕ) → 0 < k → k < n → parent k ≢ at → r k ≤ r (parent k)
  pub around : (k : ℕ) → 0 < k → k < n → parent k ≡ at → 0 < at → r k ≤ r (parent at)

-- Each item is a member, and each member is the item at its place.
pub record IsPlaced (members : List Bool) (items places : List ℕ) : Type 0 where
  pub items_in : (k : ℕ) → k < length items → is_in members (slice_index items k) ≡ true
  pub items_at : (k : ℕ) → k < length items → slice_index places (slice_index items k) ≡ k
  pub small : (k : ℕ) → k < length items → slice_index items k < length places
  pub numbers : (k : ℕ) → k < length items → slice_index items k < 2 ^ 32
  pub member_at : (v : ℕ) → is_in members v ≡ true → slice_index places v < length items
  pub member_is : (v : ℕ) → is_in members v ≡ true → slice_index items (slice_index places v) ≡ v

-- what every heap keeps
pub record IsRanked (activities : List ℕ) (members : List Bool) (places items : List ℕ) (increment room : ℕ) : Type 0 where
  pub sized : length members ≡ length activities
  pub placed_len : length places ≡ length activities
  pub roomy : length activities ≤ room
  pub counted : length items ≡ count_by (λ b. b) members
  pub placed : IsPlaced members items places
  pub heap : IsHeap (rank_at activities items) (length items)
  pub bounded : All (λ a. a ≤ 2 ^ 60) activities
  pub increment_low : 1024 ≤ increment
  pub increment_high : increment ≤ 2 ^ 60
