-- What is asked of a program, and whether a model was recorded.
use Rattle.std.specs.Prelude.{Bool, true, false, List, [], ◌∷◌, Option, None, Some}
use Rattle.std.specs.Option.{is_some}
use Rattle.asp_model.specs.declared.program.Program.{Program}
use Rattle.asp_model.specs.declared.program.Minimize.{Minimize}
use Rattle.asp_model.specs.declared.results.Mode.{Mode}
use Rattle.asp_model.specs.declared.results.Mode.TheVariants.{Enum, Opt, Consequences}
use Rattle.asp_model.specs.Found.{Found}
use Rattle.asp_model.specs.Texts.{recorded}

-- an optimum exactly where something is minimised
abbrev pub mode_by : List Minimize → Mode
mode_by [] = Enum
mode_by (m ∷ ms) = Opt

-- the mode that the words ask for, or else the program's own
abbrev pub mode_of : Option Mode → Program → Mode
mode_of (Some mode) p = mode
mode_of None p = mode_by p.minimize

abbrev pub is_some_of : {A : Type 0} → List A → Bool
is_some_of [] = false
is_some_of (x ∷ xs) = true

-- whether a model was found: it was recorded, or its part of the consequences was
abbrev pub has_model_in : Mode → Found → Bool
has_model_in Enum r = is_some_of (recorded Enum r)
has_model_in Opt r = is_some_of (recorded Opt r)
has_model_in (Consequences w) r = is_some r.known

abbrev pub has_model : Found → Bool
has_model r = has_model_in r.mode r
