-- How what is known is stored: by the atoms that it doesn't show.
use Rattle.std.specs.Prelude.{◌≡◌, Bool, true, false, List, [], ◌∷◌}
use Rattle.asp_model.specs.declared.program.Program.{Program}
use Rattle.asp_model.specs.declared.results.Reasoning.{Reasoning}
use Rattle.asp_model.specs.Consequences.{told_set, unshown}
use Rattle.asp_model.specs.Sets.{Atoms}
use Rattle.asp_vars.specs.declared.known.Known.TheInside.{Inside}
use Rattle.asp_vars.specs.Knowing.{Knowing}

abbrev pub sets_by : Bool → Reasoning → Program → Atoms → List Atoms
sets_by false r p L = []
sets_by true r p L = told_set r p L ∷ []

abbrev pub knowing_of : Inside → Knowing
knowing_of k = record { program = k.program.value; reasoning = k.reasoning; sets = sets_by k.some k.reasoning k.program.value k.unshown.items }

abbrev pub IsStored : Inside → Type 0
IsStored k = k.unshown.items ≡ unshown k.reasoning k.program.value (sets_by k.some k.reasoning k.program.value k.unshown.items)
