-- Parts of a program that stand in a row, the next one last.
use Rattle.std.specs.Prelude.{◌≡◌, List, [], ◌∷◌, ◌++◌, IfSome, map, reverse, ℤ}
use Rattle.std.specs.List.{AllByRecursion}
use Rattle.asp_model.specs.declared.program.Program.{Program}
use Rattle.asp_model.specs.Models.{atoms_of}
use Rattle.asp_model.specs.Sets.{Atoms}
use Rattle.asp_core.specs.declared.event.Event.{Event}
use Rattle.asp_core.specs.declared.event.Event.TheVariants as event
use Rattle.asp_split.specs.Dividing.{IsLeaf, part}
use Rattle.asp_parts.specs.declared.part.Found.{Found as Listed}
use Rattle.asp_parts.specs.declared.part.Part.{Part}

-- for each of these answers its delivery
abbrev pub deliveries : List Atoms → List Event
deliveries sets = map (λ S. event.Deliver 0 S) sets

-- exactly these sets, in this order, each with its delivery
pub record IsListed (p : Program) (sets : List Atoms) (f : Listed) : Type 0 where
  pub rows : f.rows ≡ record { atoms = atoms_of p; sets = sets }
  pub entries : f.entries.items ≡ deliveries sets

-- What was found are the part's sets.
pub record IsPart (p : Program) (t : Part) : Type 0 where
  pub leaf : IsLeaf p t.leaf
  pub found : IfSome t.found (IsListed p (part p t.leaf.cube))

abbrev pub AreParts : Program → List Part → Type 0
AreParts p parts = AllByRecursion (IsPart p) parts

-- the sets of the parts, one part's after the other's, the last part's first
abbrev pub sets_back : Program → List Part → List Atoms
sets_back p [] = []
sets_back p (t ∷ parts) = sets_back p parts ++ part p t.leaf.cube

-- Other parts, of the same sets.
pub record HasSame (p : Program) (old new : List Part) : Type 0 where
  pub parts : AreParts p new
  pub sets : sets_back p new ≡ sets_back p old

-- Parts of the cube's sets.
pub record ArePieces (p : Program) (cube : List ℤ) (new : List Part) : Type 0 where
  pub parts : AreParts p new
  pub sets : sets_back p new ≡ part p cube

-- Parts of the part's sets came after the others, the next one first.
pub record IsTurned (p : Program) (t : Part) (old new : List Part) : Type 0 where
  pub added : List Part
  pub is : new ≡ old ++ added
  pub pieces : ArePieces p t.leaf.cube (reverse added)

-- Parts of these sets came after the others.
pub record IsPlaced (p : Program) (old new : List Part) (sets : List Atoms) : Type 0 where
  pub added : List Part
  pub is : new ≡ old ++ added
  pub parts : AreParts p added
  pub are : sets_back p added ≡ sets
