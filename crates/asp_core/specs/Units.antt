-- Units of work that are out: an entry for each number that ever leased some.
use Rattle.std.specs.Prelude.{◌≡◌, ℕ, ◌+◌, ◌<◌, ◌==◌, if◌then◌else◌, List, [], ◌∷◌, ◌++◌, length, sum_by, slice_index_or, slice_set}

abbrev pub out_of : List (ℕ × ℕ) → ℕ → ℕ
out_of [] s = 0
out_of (x ∷ out) s = if x.0 == s then x.1 else out_of out s

-- with n more units out for s
abbrev pub leased : ℕ → ℕ → List (ℕ × ℕ) → List (ℕ × ℕ)
leased s n [] = (s, n) ∷ []
leased s n (x ∷ out) = if x.0 == s then (x.0, x.1 + n) ∷ out else x ∷ leased s n out

-- with no units out for s
abbrev pub returned : ℕ → List (ℕ × ℕ) → List (ℕ × ℕ)
returned s [] = []
returned s (x ∷ out) = if x.0 == s then (x.0, 0) ∷ out else x ∷ returned s out

abbrev pub total_out : List (ℕ × ℕ) → ℕ
total_out out = sum_by (λ x. x.1) out

-- where the entry of s stands, if there is one
pub record IsEntry (out : List (ℕ × ℕ)) (s i : ℕ) : Type 0 where
  pub within : i < length out
  pub units : out_of out s ≡ (slice_index_or out i (0, 0)).1
  pub leases : (n : ℕ) → leased s n out ≡ slice_set out i ((slice_index_or out i (0, 0)).0, (slice_index_or out i (0, 0)).1 + n)
  pub returns : returned s out ≡ slice_set out i ((slice_index_or out i (0, 0)).0, 0)

pub record HasNoEntry (out : List (ℕ × ℕ)) (s : ℕ) : Type 0 where
  pub units : out_of out s ≡ 0
  pub leases : (n : ℕ) → leased s n out ≡ out ++ (s, n) ∷ []
  pub returns : returned s out ≡ out
