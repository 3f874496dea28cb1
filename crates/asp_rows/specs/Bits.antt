-- A set among some atoms as numbers: a bit for each atom, of the first atom the highest.
use Rattle.std.specs.Prelude.{◌≡◌, ℕ, zero, suc, ◌+◌, ◌*◌, ◌/◌, ◌<◌, Bool, true, ◌-◌, ◌%◌, min, if◌then◌else◌, List, [], ◌∷◌, map, length, take, drop, slice_index}
use Rattle.asp_rows.specs.declared.bits.Bit.{Bit}
use Rattle.asp_model.specs.Sets.{Atoms, IsAscending, has}

abbrev pub bit : Bool → ℕ
bit b = if b then 1 else 0

-- the number whose digits to the base 2 are those of n and then these
abbrev pub with_bits : ℕ → List Bool → ℕ
with_bits n [] = n
with_bits n (b ∷ bs) = with_bits (2 * n + bit b) bs

abbrev pub value : List Bool → ℕ
value bs = with_bits 0 bs

-- so many words of 64 atoms each
abbrev pub words : ℕ → Atoms → List ℕ → List ℕ
words zero S atoms = []
words (suc n) S atoms = value (map (has S) (take 64 atoms)) ∷ words n S (drop 64 atoms)

abbrev pub word_count : List ℕ → ℕ
word_count atoms = (length atoms + 63) / 64

abbrev pub encode : List ℕ → Atoms → List ℕ
encode atoms S = words (word_count atoms) S atoms

-- the set's atoms are among these
pub record IsAmong (atoms : List ℕ) (S : Atoms) : Type 0 where
  pub rising : IsAscending S
  pub stand : (a : ℕ) → has S a ≡ true → has atoms a ≡ true

-- where the bit of the atom at a place stands, of so many atoms: the word, and the bits behind it there
pub record IsBitAt (count place : ℕ) (bit : Bit) : Type 0 where
  pub within : place < count
  pub word : bit.word ≡ place / 64
  pub behind : bit.behind ≡ min 64 (count - 64 * (place / 64)) - 1 - place % 64

-- where the bit of an atom stands, which is one of these
pub record IsBitOf (atoms : List ℕ) (a : ℕ) (bit : Bit) : Type 0 where
  pub place : ℕ
  pub at : IsBitAt (length atoms) place bit
  pub is : slice_index atoms place ≡ a
