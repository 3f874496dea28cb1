-- The exit statuses.
use Rattle.std.specs.Prelude.{◌≡◌, ℕ, Bool}
use Rattle.asp_top.specs.declared.status.Status.{Status}
use Rattle.asp_top.specs.declared.status.Status.TheVariants.{All, NoModel, Partial, Unknown, Enough, Help, Memory, Usage, Refused, ReadFault, TooLong, Unnamed, WriteFault, Parts}

abbrev pub code_of : Status → ℕ
code_of All = 30
code_of NoModel = 20
code_of Partial = 10
code_of Unknown = 1
code_of Enough = 11
code_of Help = 0
code_of Memory = 33
code_of Usage = 64
code_of (Refused fault line) = 65
code_of ReadFault = 66
code_of TooLong = 67
code_of Unnamed = 65
code_of (WriteFault closed) = 74
code_of Parts = 0

-- the sink failed, whether or not somebody reads what is written
abbrev pub IsLost : Status → Type 0
IsLost status = (closed : Bool) × (status ≡ WriteFault closed)
