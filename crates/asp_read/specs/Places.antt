-- Where on a line a fault is.
use Rattle.std.specs.Prelude.{ℕ, ◌+◌, ◌-◌, List, length, take}
use Rattle.std.specs.declared.result.Result.{Result}
use Rattle.std.specs.declared.result.Result.TheVariants.{Ok, Err}
use Rattle.asp_text.specs.Fields.{fields_of}
use Rattle.asp_read.specs.declared.fault.FaultKind.{FaultKind}
use Rattle.asp_read.specs.declared.fault.Fault.{Fault}
use Rattle.asp_read.specs.declared.error.FaultAt.{FaultAt}

-- the line can't be read from here on
abbrev pub broken : FaultKind → List ℕ → FaultAt
broken kind rest = record { kind = kind; left = length rest }

-- the number of the first field among the bytes that are left of a line
abbrev pub field_number : List ℕ → ℕ → ℕ
field_number line left = length (fields_of (take (length line - left) line)) + 1

abbrev pub told : List ℕ → FaultAt → Fault
told line b = record { kind = b.kind; field = field_number line b.left }

-- the same, of what a line gave
abbrev pub told_of : {A : Type 0} → List ℕ → Result A FaultAt → Result A Fault
told_of line (Ok x) = Ok x
told_of line (Err b) = Err (told line b)

-- a fault of a line that isn't there
abbrev pub missing : FaultKind → Fault
missing kind = record { kind = kind; field = 1 }
