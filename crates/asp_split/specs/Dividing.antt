-- Leaves, each of which stands for the answers under its cube.
use Rattle.std.specs.Prelude.{◌≡◌, ℕ, ◌<◌, ◌≤◌, true, List, ◌∷◌, ◌++◌, filter, flat_map, map, length, [], Contains, Option, Some, None, ℤ}
use Rattle.std.specs.List.{AllByRecursion}
use Rattle.asp_model.specs.declared.program.Program.{Program}
use Rattle.asp_model.specs.Sets.{Atoms, has}
use Rattle.asp_model.specs.Holding.{all_hold}
use Rattle.asp_model.specs.Models.{atoms_of, models, answers}
use Rattle.asp_model.specs.Sound.{is_atom}
use Rattle.asp_split.specs.Parts.{AreStanding}
use Rattle.asp_split.specs.declared.leaf.Leaf.{Leaf}

-- the models in which the assumptions hold, and the cube's literals
abbrev pub part : Program → List ℤ → List Atoms
part p cube = filter (λ S. all_hold S (p.assumptions ++ cube)) (models p)

-- All of these sets agree on the atoms below a.
abbrev pub AgreeBelow : List Atoms → ℕ → Type 0
AgreeBelow Ss a = (S T : Atoms) → Contains Ss S → Contains Ss T → (b : ℕ) → b < a → has S b ≡ has T b

-- The atom stands in the program, and the part's sets agree on all smaller ones. So those without it come first.
pub record Divides (p : Program) (cube : List ℤ) (a : ℕ) : Type 0 where
  pub stands : has (atoms_of p) a ≡ true
  pub ranges : is_atom a ≡ true
  pub agree : AgreeBelow (part p cube) a

abbrev pub MayDivide : Program → List ℤ → Option ℕ → Type 0
MayDivide p cube None = Unit {0}
MayDivide p cube (Some a) = Divides p cube a

pub record IsLeaf (p : Program) (leaf : Leaf) : Type 0 where
  pub stands : AreStanding p leaf.cube
  pub next : MayDivide p leaf.cube leaf.next

abbrev pub AreLeaves : Program → List Leaf → Type 0
AreLeaves p leaves = AllByRecursion (IsLeaf p) leaves

-- the sets of the leaves, one leaf's after the other's
abbrev pub sets_of : Program → List Leaf → List Atoms
sets_of p leaves = flat_map (λ leaf. part p leaf.cube) leaves

-- what comes of a cube: its leaf, or none where its part has no set
abbrev pub IsProbed : Program → List ℤ → Option Leaf → Type 0
IsProbed p cube None = part p cube ≡ []
IsProbed p cube (Some leaf) = (leaf.cube ≡ cube) × IsLeaf p leaf

-- The leaves of a cube's part came after the others.
pub record IsPlaced (p : Program) (old new : List Leaf) (cube : List ℤ) : Type 0 where
  pub added : List Leaf
  pub is : new ≡ old ++ added
  pub leaves : AreLeaves p added
  pub sets : sets_of p added ≡ part p cube

-- At most one leaf, of all answers.
pub record IsWhole (p : Program) (given : List Leaf) : Type 0 where
  pub leaves : AreLeaves p given
  pub sets : sets_of p given ≡ answers p
  pub few : length given ≤ 1

-- At most so many leaves, of the same sets.
pub record IsParted (p : Program) (old new : List Leaf) (parts : ℕ) : Type 0 where
  pub leaves : AreLeaves p new
  pub sets : sets_of p new ≡ sets_of p old
  pub few : length new ≤ parts

-- the cubes of the leaves; where there is none, one without literals
abbrev pub cubes_of : List Leaf → List (List ℤ)
cubes_of [] = [] ∷ []
cubes_of (leaf ∷ leaves) = leaf.cube ∷ map (λ leaf. leaf.cube) leaves
