-- What a run found, with its answers as a list of sets.
use Rattle.std.specs.Prelude.{List}
use Rattle.asp_model.specs.declared.results.Results.{Results}
use Rattle.asp_model.specs.Sets.{Atoms}

abbrev pub Found : Type 0
Found = Results (List Atoms)
