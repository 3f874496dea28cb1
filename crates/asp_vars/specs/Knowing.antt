-- What a search for consequences knows.
use Rattle.std.specs.Prelude.{List}
use Rattle.asp_model.specs.declared.program.Program.{Program}
use Rattle.asp_model.specs.declared.results.Reasoning.{Reasoning}
use Rattle.asp_model.specs.Sets.{Atoms}

-- the set that stands for the answers known of the program, if there is one, where these consequences are sought
pub record Knowing : Type 0 where
  pub program : Program
  pub reasoning : Reasoning
  pub sets : List Atoms
