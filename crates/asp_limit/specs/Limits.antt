-- How many answers may be written, and which of those heard were.
use Rattle.std.specs.Prelude.{◌≡◌, ◌⊎◌, ℕ, ◌-◌, ◌<◌, ◌≤◌, ◌==◌, Bool, false, not, ◌&&◌, if◌then◌else◌, List, ◌++◌, length, take, drop}
use Rattle.asp_model.specs.Sets.{Atoms}

-- how many more may be written where so many were; 0 is no limit
abbrev pub room : ℕ → ℕ → ℕ
room models written = if models == 0 then 18446744073709551615 else models - written

-- the answers that were left out: so many of those of the list after the ones that were written
abbrev pub left_out : List Atoms → List Atoms → ℕ → List Atoms
left_out all written left = take left (drop (length written) all)

-- those that were heard: the ones that were written, and then those that were left out
abbrev pub heard_of : List Atoms → List Atoms → ℕ → List Atoms
heard_of all written left = written ++ left_out all written left

-- No more were written than the limit says, and so many others were left out: none, unless as many were written.
pub record IsCutAt (models : ℕ) (written : List Atoms) (left : ℕ) : Type 0 where
  pub within : 0 < models → length written ≤ models
  pub full : (left ≡ 0) ⊎ ((0 < models) × (length written ≡ models))

-- the same as long as memory suffices
abbrev pub IsLimitedTo : ℕ → List Atoms → ℕ → Bool → Type 0
IsLimitedTo models written left short = short ≡ false → IsCutAt models written left

-- Whether more is wanted: no write failed, memory sufficed, and more may be written.
abbrev pub wants : ℕ → List Atoms → Bool → Bool → Bool
wants models written failed short = not failed && (not short && not (room models (length written) == 0))
