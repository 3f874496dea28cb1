-- Texts of the parts of a program, made from its own text.
use Rattle.std.specs.Prelude.{◌≡◌, ℕ, ◌+◌, ◌≤◌, List, ◌++◌, length, codes, true, ℤ}
use Rattle.std.specs.List.{AllByRecursion}
use Rattle.asp_model.specs.declared.program.Program.{Program}
use Rattle.asp_model.specs.Sets.{has}
use Rattle.asp_model.specs.Holding.{atom_of}
use Rattle.asp_model.specs.Models.{atoms_of}
use Rattle.asp_read.specs.Fields.{most_counted}
use Rattle.asp_read.specs.Sizes.{program_size}
use Rattle.asp_read.specs.Outcome.{most_bytes}
use Rattle.asp_make.specs.Texts.{assumptions_text, line}

-- a text whose last line is a 0; the first of its lines are these bytes
abbrev pub ended : List ℕ → List ℕ
ended front = line front ++ codes "0\n"

-- the same text with a line of assumptions before its last one
abbrev pub part_text : List ℕ → List ℤ → List ℕ
part_text front cube = line front ++ (line (assumptions_text cube) ++ codes "0\n")

-- The assumptions are of atoms that stand in the program, and within the limits there is room for the line.
pub record IsPartOf (front : List ℕ) (p : Program) (cube : List ℤ) : Type 0 where
  pub stand : AllByRecursion (λ l. has (atoms_of p) (atom_of l) ≡ true) cube
  pub few_counted : program_size p + length cube ≤ most_counted
  pub short : length (part_text front cube) ≤ most_bytes
