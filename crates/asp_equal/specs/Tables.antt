-- Tables of atoms: at the place of each atom another one.
use Rattle.std.specs.Prelude.{◌≡◌, ℕ, ◌<◌, ◌≤◌, ◌==◌, nat_lt, not, ◌&&◌, List, length, slice_index, slice_index_or}
use Rattle.asp_model.specs.declared.program.Program.{Program}
use Rattle.asp_model.specs.declared.program.Rule.{Rule}
use Rattle.asp_model.specs.Sets.{Atoms, has}
use Rattle.asp_equal.specs.Copies.{least, noted, or_itself, places, same, source}

-- what stands at the place of the atom, or the atom itself past the end
abbrev pub sent : List ℕ → ℕ → ℕ
sent table a = slice_index_or table a a

-- No atom is sent to a greater one.
abbrev pub IsLow : List ℕ → Type 0
IsLow table = (a : ℕ) → sent table a ≤ a

-- what one more rule says of each atom that has a place
abbrev pub AreNoted : List ℕ → List ℕ → Rule → Type 0
AreNoted before after r = (a : ℕ) → a < length before → slice_index after a ≡ noted a (slice_index before a) r

-- what the rules say of each atom that has a place
abbrev pub AreSources : List Rule → List ℕ → Type 0
AreSources rules known = (a : ℕ) → a < length known → slice_index known a ≡ source rules a

-- ---- targets and roots, read from the table of the sources and the set of the atoms that externals name
abbrev pub target_in : List ℕ → Atoms → ℕ → ℕ
target_in known named a =
    or_itself (nat_lt 0 a && nat_lt 0 (slice_index known a) && nat_lt a (length known) && nat_lt (slice_index known a) (length known)
    && not (has named a) && not (has named (slice_index known a))) (slice_index known a) a

abbrev pub root_in : List ℕ → Atoms → ℕ → ℕ
root_in known named a = or_itself (target_in known named (target_in known named a) == target_in known named a) (target_in known named a) a

-- at the place of each atom the least one below n whose root it is, or itself
abbrev pub AreLeast : List ℕ → Atoms → List ℕ → Type 0
AreLeast known named table = (r : ℕ) → r < length known → slice_index table r ≡ least (root_in known named) r (length known) r

-- The table sends each atom of the program to the one by which it goes, and has as many places as are looked at.
pub record IsSameTable (p : Program) (table : List ℕ) : Type 0 where
  pub count : length table ≡ places p
  pub value : (a : ℕ) → sent table a ≡ same (places p) p a
