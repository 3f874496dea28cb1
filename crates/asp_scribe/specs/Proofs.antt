-- The proof of a run.
use Rattle.std.specs.Prelude.{Bool, true, false, List}
use Rattle.asp_model.specs.declared.results.Ask.{Ask}
use Rattle.asp_model.specs.declared.results.End.{End}
use Rattle.asp_model.specs.declared.results.End.TheVariants.{Finished, Limited, Unfinished}
use Rattle.asp_model.specs.declared.results.Mode.{Mode}
use Rattle.asp_model.specs.declared.results.Mode.TheVariants.{Enum, Opt, Consequences}
use Rattle.asp_model.specs.Found.{Found}
use Rattle.asp_model.specs.Texts.{recorded}
use Rattle.asp_proof.specs.declared.proof.Line.{Line}
use Rattle.asp_proof.specs.declared.proof.Proof.{Proof}
use Rattle.asp_proof.specs.declared.proof.Sought.{Sought}
use Rattle.asp_proof.specs.declared.proof.Sought.TheVariants.{All, Best, Optima}

-- what is sought in a mode, where all optima may be asked for
abbrev pub sought_in : Mode → Bool → Sought
sought_in Enum all = All
sought_in Opt false = Best
sought_in Opt true = Optima
sought_in (Consequences r) all = All

abbrev pub sought_of : Ask → Sought
sought_of ask = sought_in ask.mode ask.all_optima

-- whether a run ended before all was found: with as many answers as were asked for, or with its budget
abbrev pub is_part : End → Bool
is_part Finished = false
is_part Limited = true
is_part Unfinished = true

-- the proof of a run that asked this and found that, with these lines
abbrev pub proof_of : Ask → List Line → Found → Proof
proof_of ask lines r = record { sought = sought_of ask; lines = lines; answers = recorded r.mode r; part = is_part r.end }
