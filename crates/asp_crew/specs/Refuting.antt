-- Why a program has no answer: which of its assumptions suffice.
use Rattle.std.specs.Prelude.{◌&&◌, Bool, true, false, is_none, List, [], ◌∷◌, not, ℤ, Option, None, Some}
use Rattle.asp_model.specs.declared.program.Program.{Program}
use Rattle.asp_model.specs.declared.results.End.{End}
use Rattle.asp_model.specs.declared.results.End.TheVariants.{Finished, Limited, Unfinished}
use Rattle.asp_model.specs.declared.results.Mode.{Mode}
use Rattle.asp_model.specs.declared.results.Mode.TheVariants.{Enum, Opt, Consequences}
use Rattle.asp_model.specs.Found.{Found}
use Rattle.asp_model.specs.Sets.{Atoms}
use Rattle.asp_path.specs.Trees.{all_closed}
use Rattle.asp_core.specs.Boards.{Board, is_enough}
use Rattle.asp_crew_laws.specs.declared.report.Report.{Report}
use Rattle.asp_unsat.specs.Cores.{IsCore}

abbrev pub is_nothing : List Atoms → Bool
is_nothing [] = true
is_nothing (S ∷ A) = false

-- whether all answers are sought, or a best one
abbrev pub is_plain : Mode → Bool
is_plain Enum = true
is_plain Opt = true
is_plain (Consequences r) = false

-- whether the board shows that there is no answer
abbrev pub refutes : Mode → Board → Bool
refutes mode b = is_plain mode && not (is_enough b) && all_closed b.nodes && (is_nothing b.answers && is_none b.best)

-- the same of what a search found
abbrev pub is_finished : End → Bool
is_finished Finished = true
is_finished Limited = false
is_finished Unfinished = false

abbrev pub is_refuted : Found → Bool
is_refuted r = is_plain r.mode && is_finished r.end && (is_nothing r.answers && is_none r.best)

-- Exactly where there is no answer some of the assumptions are a core.
abbrev pub HasCoreIf : Bool → Program → Option (List ℤ) → Type 0
HasCoreIf true p (Some core) = IsCore p p.assumptions core
HasCoreIf true p None = ⊥
HasCoreIf false p (Some core) = ⊥
HasCoreIf false p None = Unit {0}

abbrev pub HasCore : Program → Report → Type 0
HasCore p r = HasCoreIf (is_refuted r.results) p r.core
