-- The exit statuses of the checker.
use Rattle.std.specs.Prelude.{ℕ}
use Rattle.asp_checker.specs.declared.run.CheckStatus.{CheckStatus}
use Rattle.asp_checker.specs.declared.run.CheckStatus.TheVariants as status

abbrev pub code_of : CheckStatus → ℕ
code_of status.Yes = 0
code_of (status.No w n) = 1
code_of (status.Part n) = 2
code_of status.Memory = 33
code_of (status.Program e) = 65
code_of status.ReadFault = 66
code_of status.TooLong = 67
code_of status.NoProof = 68
code_of (status.Proof e) = 68
code_of status.WriteFault = 74
