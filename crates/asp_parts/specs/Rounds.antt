-- Workers, and what came of the parts that they took.
use Rattle.std.specs.Prelude.{◌≡◌, ◌<◌, List, length, slice_index_or}
use Rattle.std.specs.List.{AllByRecursion}
use Rattle.asp_model.specs.declared.program.Program.{Program}
use Rattle.asp_parts.specs.Parts.{AreParts, ArePieces}
use Rattle.asp_parts.specs.declared.part.Part.{Part}
use Rattle.asp_parts.specs.declared.worker.Bench.{Bench}
use Rattle.asp_parts.specs.declared.worker.Done.{Done}
use Rattle.asp_parts.specs.declared.worker.Worker.{Worker}

-- All that it works with is the program's.
pub record IsBench (p : Program) (b : Bench) : Type 0 where
  pub program : b.compiled.now ≡ p
  pub divider : b.divider ≡ p
  pub search : b.search ≡ p

-- What came in the place of one of these parts are parts of its sets.
pub record IsDone (p : Program) (parts : List Part) (d : Done) : Type 0 where
  pub within : d.place < length parts
  pub pieces : (t : Part) → ArePieces p (slice_index_or parts d.place t).leaf.cube d.parts.items

abbrev pub IsWorker : Program → Worker → Type 0
IsWorker p w = IsBench p w.bench

abbrev pub AreWorkers : Program → List Worker → Type 0
AreWorkers p workers = AllByRecursion (IsWorker p) workers

-- A worker, who has done some of these parts.
pub record HasDone (p : Program) (parts : List Part) (w : Worker) : Type 0 where
  pub worker : IsWorker p w
  pub done : AllByRecursion (IsDone p parts) w.done.items

abbrev pub HaveDone : Program → List Part → List Worker → Type 0
HaveDone p parts workers = AllByRecursion (HasDone p parts) workers

-- A worker of the program of these parts has done some of them.
abbrev pub Worked : Program → List Part → Worker → Worker → Type 0
Worked p parts v w = IsWorker p v → AreParts p parts → HasDone p parts w
