-- A program in parts, by assumptions.
use Rattle.std.specs.Prelude.{◌≡◌, true, List, ◌++◌, flat_map, ℤ}
use Rattle.std.specs.List.{AllByRecursion}
use Rattle.asp_model.specs.declared.program.Program.{Program}
use Rattle.asp_model.specs.Sets.{Atoms, has}
use Rattle.asp_model.specs.Holding.{atom_of}
use Rattle.asp_model.specs.Models.{atoms_of, answers}

-- the program with these assumptions behind its own
abbrev pub assuming : Program → List ℤ → Program
assuming p cube = record p { assumptions = p.assumptions ++ cube }

-- The atoms of these literals stand in the program.
abbrev pub AreStanding : Program → List ℤ → Type 0
AreStanding p cube = AllByRecursion (λ l. has (atoms_of p) (atom_of l) ≡ true) cube

-- the answers of the program under each cube, one cube after the other
abbrev pub answers_of_parts : Program → List (List ℤ) → List Atoms
answers_of_parts p cubes = flat_map (λ cube. answers (assuming p cube)) cubes
