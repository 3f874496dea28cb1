-- The parts of a program, and how a run ends that writes them.
use Rattle.std.specs.Prelude.{◌≡◌, ◌⊎◌, ℕ, ◌<◌, ◌≤◌, List, length, Option, None, ℤ}
use Rattle.std.specs.List.{AllByRecursion}
use Rattle.std.specs.Io.KnownBytes.{Appends, Keeps}
use Rattle.asp_io.specs.Causes.{Rose, AppendsFront}
use Rattle.asp_model.specs.declared.program.Program.{Program}
use Rattle.asp_model.specs.Models.{answers}
use Rattle.asp_make.specs.Texts.{parts_text}
use Rattle.asp_split.specs.Parts.{AreStanding, answers_of_parts}
use Rattle.asp_top.specs.Codes.{IsLost}
use Rattle.asp_top.specs.declared.status.Status.{Status}
use Rattle.asp_top.specs.declared.status.Status.TheVariants.{Memory, Parts}
use Rattle.asp_top.specs.declared.status.Outcome.{Outcome}

-- Cubes of assumptions, one at least and no more than these. The answers of the program under each, one cube after the other, are
-- the answers of the program.
pub record AreParts (p : Program) (most : ℕ) (cubes : List (List ℤ)) : Type 0 where
  pub same : answers_of_parts p cubes ≡ answers p
  pub stand : AllByRecursion (AreStanding p) cubes
  pub some : 0 < length cubes
  pub few : length cubes ≤ most

-- the text of such cubes
pub record IsPartsText (p : Program) (most : ℕ) (text : List ℕ) : Type 0 where
  pub cubes : List (List ℤ)
  pub parts : AreParts p most cubes
  pub is : text ≡ parts_text cubes

-- a text was written, or cut off by a fault
abbrev pub HandingMeans : List ℕ → Option (List ℕ) → Option (List ℕ) → ℕ → ℕ → Status → Type 0
HandingMeans text held held' writes writes' status =
    ((status ≡ Parts) × Appends held held' text)
    ⊎ (IsLost status × AppendsFront held held' text × Rose writes writes')

-- a text that was to be written
pub record Hands (text : List ℕ) (held held' : Option (List ℕ)) (writes writes' : ℕ) (o : Outcome) : Type 0 where
  pub none : o.report ≡ None
  pub means : HandingMeans text held held' writes writes' o.status
  pub later : writes ≤ writes'

-- The program was divided, or memory ran out and nothing was written.
abbrev pub Divides : Program → ℕ → Option (List ℕ) → Option (List ℕ) → ℕ → ℕ → Outcome → Type 0
Divides p most held held' writes writes' o =
    ((o ≡ record { status = Memory; report = None }) × Keeps held held' × (writes' ≡ writes))
    ⊎ ((text : List ℕ) × IsPartsText p most text × Hands text held held' writes writes' o)
