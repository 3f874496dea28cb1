-- Sets among the same atoms, listed.
use Rattle.std.specs.Prelude.{◌≡◌, List, []}
use Rattle.std.specs.List.{AllByRecursion}
use Rattle.std.specs.List.Sorted.{IsPermutation, IsSorted}
use Rattle.std.specs.List.Retain.{IsFiltered, DiffersFromLast}
use Rattle.asp_model.specs.Sets.{Atoms, same_set, set_cmp}
use Rattle.asp_rows.specs.declared.row.Row.{Row}
use Rattle.asp_rows.specs.Bits.{IsAmong, encode}

-- the atoms, and sets of some of them
pub record Listed : Type 0 where
  pub atoms : Atoms
  pub sets : List Atoms

pub record IsRowOf (atoms : Atoms) (row : Row) : Type 0 where
  pub words : row.words.items ≡ encode atoms row.set
  pub among : IsAmong atoms row.set

-- the row of this set among these atoms
pub record IsRowFor (atoms S : Atoms) (row : Row) : Type 0 where
  pub words : row.words.items ≡ encode atoms S
  pub set : row.set ≡ S

abbrev pub AreRows : Atoms → List Row → Type 0
AreRows atoms rows = AllByRecursion (IsRowOf atoms) rows

-- the sets sorted, and then each once
pub record SortsSingle (old new : List Atoms) : Type 0 where
  pub sorted : List Atoms
  pub permutation : IsPermutation old sorted
  pub rising : IsSorted set_cmp sorted
  pub once : IsFiltered (DiffersFromLast same_set) [] sorted new
