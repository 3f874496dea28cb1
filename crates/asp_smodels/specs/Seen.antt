-- What the lines so far said: how far they came, the program, and the atoms that stand in it.
use Rattle.std.specs.Prelude.{[]}
use Rattle.asp_model.specs.declared.program.Program.{Program}
use Rattle.asp_model.specs.Sets.{Atoms}
use Rattle.asp_read.specs.Sizes.{empty_program}
use Rattle.asp_smodels.specs.declared.reader.Stage.{Stage}
use Rattle.asp_smodels.specs.declared.reader.Stage.TheVariants.{Rules}

pub record Seen : Type 0 where
  pub stage : Stage
  pub program : Program
  pub known : Atoms

abbrev pub nothing_seen : Seen
nothing_seen = record { stage = Rules; program = empty_program; known = [] }
