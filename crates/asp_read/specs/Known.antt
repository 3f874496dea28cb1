-- What is kept of the atoms that stood so far.
use Rattle.std.specs.Prelude.{◌≡◌, ℕ, suc, ◌+◌, ◌-◌, ◌*◌, ◌<◌, ◌≤◌, Bool, List, [], ◌∷◌, ◌++◌, length, slice_index, if◌then◌else◌, true}
use Rattle.asp_model.specs.Sets.{Atoms, IsAscending, has}
use Rattle.asp_read.specs.Fields.{most_atoms}

-- the places from the first one on, which is this one, that have a mark
abbrev pub marked : ℕ → List Bool → List ℕ
marked i [] = []
marked i (b ∷ bs) = if b then i ∷ marked (suc i) bs else marked (suc i) bs

-- the atoms of a table by atom, and others
abbrev pub together : List Bool → List ℕ → List ℕ
together near others = marked 0 near ++ others

-- how many atoms are found at once
abbrev pub recent_places : ℕ
recent_places = 1048576

-- the atom of a place that has this mark
abbrev pub atom_at_place : ℕ → ℕ → ℕ
atom_at_place mark place = (mark - 1) * recent_places + place

-- each place has no mark or that of an atom of the set, and the count is right
pub record IsKnown (S : Atoms) (recent : List ℕ) (count : ℕ) : Type 0 where
  pub ascending : IsAscending S
  pub stood : (k : ℕ) → k < length recent → 0 < slice_index recent k → has S (atom_at_place (slice_index recent k) k) ≡ true
  pub places : length recent ≡ recent_places
  pub counted : count ≡ length S
  pub bound : count ≤ most_atoms
