-- What a propagator was told: the values of a program's variables, kept beside a trail.
use Rattle.std.specs.Prelude.{Bool, List, Option, Some, None, slice_set}
use Rattle.asp_model.specs.declared.program.Program.{Program}
use Rattle.asp_vars.specs.Literals.{Literal}

-- the values by variable, of which the number 0 has none
pub record Told : Type 0 where
  pub program : Program
  pub values : List (Option Bool)

-- the literal holds
abbrev pub told : Told → Literal → Told
told t l = record t { values = slice_set t.values l.var (Some l.truth) }

-- the literal's variable has no value
abbrev pub untold : Told → Literal → Told
untold t l = record t { values = slice_set t.values l.var None }
