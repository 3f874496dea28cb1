-- Which true atoms are founded.
use Rattle.std.specs.Prelude.{◌≡◌, ℕ, suc, Bool, true, false, All, ◌<◌, List, Option, IsTrue, length}
use Rattle.std.specs.List.{list_any}
use Rattle.asp_model.specs.declared.program.Program.{Program}
use Rattle.asp_model.specs.Sets.{Atoms, has}
use Rattle.asp_model.specs.Models.{atoms_of, least_model}
use Rattle.asp_vars.specs.Literals.{Literal, hits, holds_in, is_true}
use Rattle.asp_vars.specs.Numbering.{values, var_of_atom}
use Rattle.asp_vars.specs.Completion.{completion}
use Rattle.asp_vars.specs.Tabled.{IsAtomVar}
use Rattle.asp_found.specs.Marks.{is_marked}

-- The atoms of the set that are marked are in the least model of its reduct.
abbrev pub AreFounded : Program → Atoms → List Bool → Type 0
AreFounded p S marks =
    (a : ℕ) → IsTrue (has (atoms_of p) a) → IsTrue (has S a) → is_marked marks (var_of_atom p a) ≡ true → IsTrue (has (least_model p S) a)

-- The set hits no nogood of the completion.
abbrev pub KeepsCompletion : Program → Atoms → Type 0
KeepsCompletion p S = list_any (hits (values p S)) (completion p) ≡ false

-- The marks show atoms that are founded in each set that keeps the completion: no positive loop stands below them.
abbrev pub AreLoopless : Program → List Bool → Type 0
AreLoopless p flat = (S : Atoms) → KeepsCompletion p S → AreFounded p S flat

-- The assignment gives each atom its value in the set.
abbrev pub GivesAtoms : Program → Atoms → List (Option Bool) → Type 0
GivesAtoms p S a = (l : Literal) → IsAtomVar p l.var → holds_in a l ≡ is_true (values p S) l

-- The marked atoms are founded in the set that the assignment gives, if it keeps the completion.
abbrev pub AreDerived : Program → List (Option Bool) → List Bool → Type 0
AreDerived p a marks = (S : Atoms) → KeepsCompletion p S → GivesAtoms p S a → AreFounded p S marks

-- Each atom of the set that the assignment gives is founded, if it keeps the completion.
abbrev pub IsDerived : Program → List (Option Bool) → Type 0
IsDerived p a =
    (S : Atoms) → KeepsCompletion p S → GivesAtoms p S a → (c : ℕ) → IsTrue (has (atoms_of p) c) → IsTrue (has S c) → IsTrue (has (least_model p S) c)

-- All atoms that aren't marked are listed.
abbrev pub AreListed : List Bool → List ℕ → Type 0
AreListed flat loops = (v : ℕ) → 0 < v → v < length flat → is_marked flat v ≡ false → has loops v ≡ true

-- What a checker keeps.
pub record IsChecker (p : Program) (flat : List Bool) (loops : List ℕ) : Type 0 where
  pub size : length flat ≡ suc (length (atoms_of p))
  pub loopless : AreLoopless p flat
  pub listed : AreListed flat loops
  pub within : All (IsAtomVar p) loops
