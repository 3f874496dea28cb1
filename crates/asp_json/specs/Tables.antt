-- Outputs whose texts stand in quotes, and what is read of them for each answer.
use Rattle.std.specs.Prelude.{◌≡◌, List, map}
use Rattle.asp_model.specs.declared.program.Output.{Output}
use Rattle.asp_model.specs.Sets.{Atoms}
use Rattle.asp_print.specs.Rows.{IsTableBy}
use Rattle.asp_json.specs.Quoting.{quoted_output}
use Rattle.asp_json.specs.declared.answers.QuotedTable.{QuotedTable}

pub record IsQuoted (atoms : Atoms) (os : List Output) (q : QuotedTable) : Type 0 where
  pub outputs : q.outputs ≡ map quoted_output os
  pub table : IsTableBy 44 atoms q.outputs q.table
