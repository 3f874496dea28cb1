-- The texts of an answer, one output after another.
use Rattle.std.specs.Prelude.{ℕ, Bool, ◌||◌, if◌then◌else◌, List, [], ◌∷◌, ◌++◌}
use Rattle.asp_model.specs.declared.program.Output.{Output}
use Rattle.asp_model.specs.Sets.{Atoms}
use Rattle.asp_model.specs.Holding.{all_hold}

-- what stands between two texts: a blank, a comma or another byte
abbrev pub separator : ℕ → Bool → List ℕ
separator between any = if any then between ∷ [] else []

-- what an output adds to the line: its text where its condition holds, after a separator where a text stands before it
abbrev pub piece : ℕ → Atoms → Bool → Output → List ℕ
piece between S any o = if all_hold S o.condition then separator between any ++ o.text else []

-- what these outputs add, one after another
abbrev pub pieces : ℕ → Atoms → Bool → List Output → List ℕ
pieces between S any [] = []
pieces between S any (o ∷ os) = piece between S any o ++ pieces between S (any || all_hold S o.condition) os
