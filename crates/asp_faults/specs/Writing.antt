-- What became of a sink to which bytes were written.
use Rattle.std.specs.Prelude.{◌≡◌, ℕ, ◌≤◌, List, Option, Result, OnOk, OnErr}
use Rattle.std.specs.Io.KnownBytes.{Appends}
use Rattle.asp_io.specs.Causes.{Rose, AppendsFront}

-- a call wrote all of the bytes, or failed with a front of them out, and exactly then a fault was counted
pub record Writes {T E : Type 0} (held held' : Option (List ℕ)) (faults faults' : ℕ) (result : Result T E) (bytes : List ℕ) : Type 0 where
  pub all : OnOk result (Appends held held' bytes)
  pub front : OnErr result (AppendsFront held held' bytes)
  pub later : faults ≤ faults'
  pub cause : OnErr result (Rose faults faults')
  pub quiet : OnOk result (faults' ≡ faults)

-- a front of the text was written, and all of it where no fault was counted
pub record IsNoted (held held' : Option (List ℕ)) (faults faults' : ℕ) (text : List ℕ) : Type 0 where
  pub front : AppendsFront held held' text
  pub whole : ¬ Rose faults faults' → Appends held held' text
  pub later : faults ≤ faults'
