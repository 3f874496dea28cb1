-- Where a field begins and ends.
use Rattle.std.proofs.Common.{◌≡◌, ℕ, ◌≤◌, Bool, true, false, ltb, List, length, refl, arith, inl, inr}
use Rattle.std.specs.Prelude.{unwrap_or}
use Rattle.std.specs.List.{position, position_or_len}
use Rattle.std.proofs.lemmas.Bool.{cases_lt, le-ltb, lt-ltb}
use Rattle.std.proofs.lemmas.List.Sums.{prefix_len-le-length}
use Rattle.std.specs.Prelude.{not}

-- a position or the length
pub found : (p : ℕ → Bool) (xs : List ℕ) → (unwrap_or (position p xs) (length xs) ≡ position_or_len p xs) × (position_or_len p xs ≤ length xs)
found p xs =
    let le : position_or_len p xs ≤ length xs = prefix_len-le-length (λ x. not (p x)) xs in (
      elim (cases_lt (position_or_len p xs) (length xs)) [
        | inl lt ↦ let t : ltb (position_or_len p xs) (length xs) ≡ true = lt-ltb _ _ lt in rw t refl
        | inr ge ↦ let t : ltb (position_or_len p xs) (length xs) ≡ false = le-ltb _ _ ge in rw t (omega arith)
      ],
      le,
    )
