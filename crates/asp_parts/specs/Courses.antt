-- What was told of a program's answers, and what is left.
use Rattle.std.specs.Prelude.{◌≡◌, ◌+◌, ◌<◌, ◌^◌, Bool, true, false, List, ◌++◌, length}
use Rattle.asp_model.specs.declared.program.Program.{Program}
use Rattle.asp_model.specs.Models.{answers}
use Rattle.asp_model.specs.Sets.{Atoms}
use Rattle.asp_stream.specs.declared.told.End.{End}
use Rattle.asp_stream.specs.declared.told.End.TheVariants as end
use Rattle.asp_parts.specs.Parts.{AreParts, deliveries, sets_back}
use Rattle.asp_parts.specs.declared.course.Course.{Course}
use Rattle.asp_parts.specs.Rounds.{AreWorkers}
use Rattle.asp_parts.specs.declared.part.Part.{Part}
use Rattle.asp_parts.specs.declared.run.Run.{Run}

-- The journal has the delivery of each answer that was heard, and they are counted.
pub record IsCourse (heard : List Atoms) (c : Course) : Type 0 where
  pub journal : c.journal.items ≡ deliveries heard
  pub counted : c.heard ≡ length heard
  pub few : length heard + 1 < 2 ^ 64

-- What was heard, and then the sets of the parts, are all these.
pub record MakesUp (p : Program) (all heard : List Atoms) (parts : List Part) : Type 0 where
  pub are : AreParts p parts
  pub sets : heard ++ sets_back p parts ≡ all

-- What was heard, and then the sets of the parts, are the program's answers.
abbrev pub IsTelling : Program → List Atoms → List Part → Type 0
IsTelling p heard parts = MakesUp p (answers p) heard parts

-- A run that has told so much, by workers of the program.
pub record IsRun (p : Program) (heard : List Atoms) (r : Run) : Type 0 where
  pub workers : AreWorkers p r.crew.workers.items
  pub course : IsCourse heard r.course
  pub telling : IsTelling p heard r.parts.items

-- All was told, or no more is wanted.
abbrev pub IsOver : Program → List Atoms → Bool → Bool → Type 0
IsOver p heard wants true = heard ≡ answers p
IsOver p heard wants false = wants ≡ false

-- how a stream ended, where all was told or no more is wanted
abbrev pub end_of : Bool → End
end_of true = end.Finished
end_of false = end.Unwanted
