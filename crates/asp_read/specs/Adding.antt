-- A program with one more statement.
use Rattle.std.specs.Prelude.{[], ◌∷◌, ◌++◌}
use Rattle.asp_model.specs.declared.program.Program.{Program}
use Rattle.asp_read.specs.declared.statement.Statement.{Statement}
use Rattle.asp_read.specs.declared.statement.Statement.TheVariants as say

abbrev pub adds : Program → Statement → Program
adds p say.End = p
adds p (say.Rule r) = record p { rules = p.rules ++ r ∷ [] }
adds p (say.Minimize m) = record p { minimize = p.minimize ++ m ∷ [] }
adds p (say.Output o) = record p { outputs = p.outputs ++ o ∷ [] }
adds p (say.External e) = record p { externals = p.externals ++ e ∷ [] }
adds p (say.Assume ls) = record p { assumptions = p.assumptions ++ ls }
adds p say.Comment = p
