-- How a run ends: its exit statuses, and how it ends without its arguments.
use Rattle.std.specs.Prelude.{ℕ}
use Rattle.std.specs.declared.io.ErrorKind.{ErrorKind}
use Rattle.std.specs.declared.io.ErrorKind.TheVariants.{OutOfMemory}
use Rattle.asp_checker.specs.Codes.{code_of}
use Rattle.asp_checkrun.specs.declared.status.Status.{Status}
use Rattle.asp_checkrun.specs.declared.status.Status.TheVariants as status

abbrev pub status_code : Status → ℕ
status_code (status.Checked s) = code_of s
status_code status.Told = 0
status_code status.Memory = 33
status_code status.Usage = 64
status_code status.WriteFault = 74

-- out of memory stays so, and any other error is one of the arguments
abbrev pub status_without : ErrorKind → Status
status_without OutOfMemory = status.Memory
status_without _ = status.Usage
