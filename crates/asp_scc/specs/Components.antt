-- The components of the positive dependencies of a program.
use Rattle.std.specs.Prelude.{◌≡◌, ℕ, suc, ◌<◌, ◌⊎◌, ◌↔◌, Bool, false, List, [], length, IsTrue, slice_index, slice_index_or}
use Rattle.asp_model.specs.declared.program.Program.{Program}
use Rattle.asp_model.specs.Sets.{has}
use Rattle.asp_model.specs.Models.{atoms_of}
use Rattle.asp_vars.specs.Numbering.{var_of_atom}
use Rattle.asp_vars.specs.Tabled.{IsAtomVar}
use Rattle.asp_scc.specs.Dependencies.{Reaches}

-- the component of each atom's variable, the variables of each component's atoms, and which components are trivial
pub record Parts : Type 0 where
  pub numbers : List ℕ
  pub members : List (List ℕ)
  pub trivial : List Bool

abbrev pub component_of : Program → Parts → ℕ → ℕ
component_of p c a = slice_index c.numbers (var_of_atom p a)

abbrev pub Stands : Program → ℕ → Type 0
Stands p a = IsTrue (has (atoms_of p) a)

-- each reaches the other
abbrev pub IsLoop : Program → ℕ → ℕ → Type 0
IsLoop p a b = Reaches p a b × Reaches p b a

-- The atom is alone in its component, and doesn't reach itself.
pub record IsAlone (p : Program) (c : Parts) (a : ℕ) : Type 0 where
  pub only : (b : ℕ) → Stands p b → component_of p c b ≡ component_of p c a → b ≡ a
  pub acyclic : Reaches p a a → ⊥

pub record AreComponents (p : Program) (c : Parts) : Type 0 where
  pub numbered : length c.numbers ≡ suc (length (atoms_of p))
  pub counted : length c.trivial ≡ length c.members
  pub within : (a : ℕ) → Stands p a → component_of p c a < length c.members
  pub same : (a b : ℕ) → Stands p a → Stands p b → ((component_of p c a ≡ component_of p c b) ↔ ((a ≡ b) ⊎ IsLoop p a b))
  pub members : (k v : ℕ) → k < length c.members → (IsTrue (has (slice_index_or c.members k []) v) ↔ (IsAtomVar p v × (slice_index c.numbers v ≡ k)))
  pub trivial : (a : ℕ) → Stands p a → (IsTrue (slice_index_or c.trivial (component_of p c a) false) ↔ IsAlone p c a)
