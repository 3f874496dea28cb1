-- The nogoods that a search keeps, and why.
use Rattle.std.specs.Prelude.{◌≡◌, ◌≢◌, ℕ, false, List, Option, Some, None, ℤ, IsTrue}
use Rattle.std.specs.List.{All, AllPairs, AllByRecursion}
use Rattle.asp_model.specs.declared.program.Program.{Program}
use Rattle.asp_model.specs.Sets.{Atoms}
use Rattle.asp_vars.specs.Literals.{hits}
use Rattle.asp_vars.specs.Numbering.{values}
use Rattle.asp_vars.specs.declared.nogood.Base.TheVariants as base
use Rattle.asp_vars.specs.declared.nogood.Nogood.{Nogood}
use Rattle.asp_store.specs.declared.stored_nogood.StoredNogood.{StoredNogood}
use Rattle.asp_store.specs.declared.stored_nogood.Kind.TheVariants as kind
use Rattle.asp_store.specs.Keeping.{kept_at, nogood_at, comes_from_propagator}
use Rattle.asp_propagate.specs.Useful.{IsUseful}

-- Each nogood that is kept counts for the search.
abbrev pub AreUseful : Program → List Atoms → Option (List ℤ) → List (Option StoredNogood) → Type 0
AreUseful p known bound slots = (id : ℕ) (n : Nogood) → nogood_at slots id ≡ Some n → IsUseful p known bound n

-- The set hits a nogood that is kept forever.
pub record IsExcluded (p : Program) (slots : List (Option StoredNogood)) (S : Atoms) : Type 0 where
  pub id : ℕ
  pub kept : StoredNogood
  pub stands : kept_at slots id ≡ Some kept
  pub forever : kept.kind ≡ kind.Forever
  pub hit : IsTrue (hits (values p S) kept.nogood.lits)

abbrev pub AreExcluded : Program → List (Option StoredNogood) → List Atoms → Type 0
AreExcluded p slots known = AllByRecursion (IsExcluded p slots) known

-- The nogood under this number is local, and kept forever: it blocks an answer.
pub record IsBlocking (slots : List (Option StoredNogood)) (id : ℕ) : Type 0 where
  pub kept : StoredNogood
  pub stands : kept_at slots id ≡ Some kept
  pub forever : kept.kind ≡ kind.Forever
  pub local : kept.nogood.base ≡ base.Local

-- The numbers of such nogoods, each once.
pub record AreBlocking (slots : List (Option StoredNogood)) (ids : List ℕ) : Type 0 where
  pub each : All (IsBlocking slots) ids
  pub differ : AllPairs (λ i j. i ≢ j) ids

-- There is such a nogood, if there is a number.
abbrev pub IsLast : List (Option StoredNogood) → Option ℕ → Type 0
IsLast slots None = Unit {0}
IsLast slots (Some id) = (n : Nogood) × (nogood_at slots id ≡ Some n)

-- All nogoods that were kept are as they were.
abbrev pub Grows : List (Option StoredNogood) → List (Option StoredNogood) → Type 0
Grows old new = (id : ℕ) (k : StoredNogood) → kept_at old id ≡ Some k → kept_at new id ≡ Some k

-- All nogoods that were kept are as they were, but for those that propagators gave, which may be gone.
abbrev pub GrowsUnlessGiven : List (Option StoredNogood) → List (Option StoredNogood) → Type 0
GrowsUnlessGiven old new = (id : ℕ) (k : StoredNogood) → kept_at old id ≡ Some k → comes_from_propagator k.kind ≡ false → kept_at new id ≡ Some k
