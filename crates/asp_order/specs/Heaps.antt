-- What a heap of variables is: their activities, and which of them are in it.
use Rattle.std.specs.Prelude.{◌≡◌, ℕ, ◌+◌, ◌-◌, ◌/◌, ◌^◌, ◌<◌, ◌≤◌, ◌⊎◌, Bool, true, false, nat_le, max, List, ◌++◌, length, map, replicate, if◌then◌else◌, slice_index, slice_index_or, slice_set}

-- The activities of the variables from 0 on, which of them are in the heap, and by how much a bump raises one.
pub record Ranking : Type 0 where
  pub activities : List ℕ
  pub members : List Bool
  pub increment : ℕ

abbrev pub is_in : List Bool → ℕ → Bool
is_in members v = slice_index_or members v false

-- v is more active than w, or as active and not of a greater number.
abbrev pub Precedes : List ℕ → ℕ → ℕ → Type 0
Precedes activities v w =
    (slice_index activities w < slice_index activities v) ⊎ ((slice_index activities w ≡ slice_index activities v) × (v ≤ w))

-- v is in the heap, and precedes all that are.
pub record IsFirst (h : Ranking) (v : ℕ) : Type 0 where
  pub member : is_in h.members v ≡ true
  pub best : (w : ℕ) → is_in h.members w ≡ true → Precedes h.activities v w

-- The variables up to n have an activity.
abbrev pub reserved : Ranking → ℕ → Ranking
reserved h n =
    record h {
      activities = h.activities ++ replicate (n + 1 - length h.activities) 0;
      members = h.members ++ replicate (n + 1 - length h.activities) false;
    }

-- All activities and the increment are divided by 2 ^ 30, rounded down, the increment to no less than 1,024.
abbrev pub rescaled : Ranking → Ranking
rescaled h = record h { activities = map (λ a. a / 2 ^ 30) h.activities; increment = max 1024 (h.increment / 2 ^ 30) }

-- the same, rescaled where something would pass 2 ^ 60
abbrev pub within : Ranking → ℕ → Ranking
within h most = if nat_le most (2 ^ 60) then h else rescaled h

abbrev pub raised : Ranking → ℕ → Ranking
raised h v = record h { activities = slice_set h.activities v (slice_index h.activities v + h.increment) }

-- The activity of v grows by the increment.
abbrev pub bumped : Ranking → ℕ → Ranking
bumped h v = raised (within h (slice_index h.activities v + h.increment)) v

abbrev pub grown : Ranking → Ranking
grown h = record h { increment = h.increment + h.increment / 16 }

-- The increment grows by its sixteenth, rounded down.
abbrev pub decayed : Ranking → Ranking
decayed h = grown (within h (h.increment + h.increment / 16))
