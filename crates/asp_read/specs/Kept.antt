-- What a reader keeps beside the program.
use Rattle.std.specs.Prelude.{◌≡◌, ℕ, ◌≤◌, List, ℤ}
use Rattle.asp_model.specs.declared.program.Program.{Program}
use Rattle.asp_read.specs.Sizes.{program_size}
use Rattle.asp_read.specs.Fields.{most_counted}
use Rattle.asp_read.specs.Statements.{priorities}

pub record IsKept (program : Program) (used : ℕ) (seen : List ℤ) : Type 0 where
  pub size : used ≡ program_size program
  pub bound : used ≤ most_counted
  pub priorities_are : seen ≡ priorities program
