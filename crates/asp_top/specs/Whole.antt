-- What a run that finished has read and written, said by the program alone: the theorem of docs/THEOREM.md.
use Rattle.std.specs.Prelude.{◌≡◌, ℕ, ◌++◌, Bool, true, false, if◌then◌else◌, List, [], ◌∷◌, map, filter, length, take, Contains, Option, None, Some, Ok, IfSome, codes, decimal, ℤ}
use Rattle.std.specs.Io.KnownBytes.{Appends}
use Rattle.asp_model.specs.declared.program.Program.{Program}
use Rattle.asp_model.specs.declared.results.End.{End}
use Rattle.asp_model.specs.declared.results.End.TheVariants.{Finished, Limited}
use Rattle.asp_model.specs.declared.results.Mode.{Mode}
use Rattle.asp_model.specs.declared.results.Mode.TheVariants.{Enum, Opt, Consequences}
use Rattle.asp_model.specs.Sets.{Atoms}
use Rattle.asp_model.specs.Models.{answers}
use Rattle.asp_model.specs.Costs.{cost, optima}
use Rattle.asp_model.specs.Consequences.{consequences}
use Rattle.asp_model.specs.Texts.{answers_from, cost_line, ended_line}
use Rattle.asp_make.specs.Ring.{ring}
use Rattle.asp_json.specs.Json.{json_with}
use Rattle.asp_named.specs.Told.{told_texts}
use Rattle.asp_print.specs.Named.{named_line}
use Rattle.asp_model.specs.declared.results.Reasoning.{Reasoning}
use Rattle.asp_cli.specs.declared.Form.{Form}
use Rattle.asp_cli.specs.declared.Form.TheVariants.{Text, Json}
use Rattle.asp_cli.specs.declared.Format.{Format}
use Rattle.asp_cli.specs.declared.Options.{Options}
use Rattle.asp_top.specs.Formats.{outcome_for}
use Rattle.asp_top.specs.declared.status.Status.{Status}
use Rattle.asp_top.specs.declared.status.Status.TheVariants.{All, NoModel, Enough}
use Rattle.asp_prepare.specs.Meaning.{mode_of}
use Rattle.asp_top.specs.Runs.{is_brief}

-- ---- what is read
-- The program is that of the text that was read: the source's whole content, where the source tells it. With `--make` it is the ring.
abbrev pub IsInput : Format → Option ℕ → Option (List ℕ) → Program → Type 0
IsInput f None left p = (text : List ℕ) × (outcome_for f text ≡ Ok p) × IfSome left (λ all. all ≡ text)
IsInput f (Some n) left p = p ≡ ring n

-- ---- what is written
-- the lines of these answers, unless only the closing lines are asked for
abbrev pub listed : Options → Program → List Atoms → List ℕ
listed given p Ss = if is_brief given then [] else answers_from p 1 Ss

-- the last two lines: what was found, and how many
abbrev pub closing : List ℕ → List ℕ → List ℕ
closing found count = ended_line found ++ ended_line (codes "Models: " ++ count)

-- some of these answers, in the same order, and so many of them
abbrev pub ArePicked : ℕ → List Atoms → List Atoms → Type 0
ArePicked n all Ss = ((chosen : Atoms → Bool) × (Ss ≡ filter chosen all)) × (length Ss ≡ n)

-- Which answers are written of as many as `--models` asks for: with `--stream` the first ones.
abbrev pub ArePickedBy : Bool → ℕ → List Atoms → List Atoms → Type 0
ArePickedBy true n all Ss = (Ss ≡ take n all) × (length Ss ≡ n)
ArePickedBy false n all Ss = ArePicked n all Ss

-- which optima are written: all of them with `--opt-all`, and else this one
abbrev pub written_optima : Options → Program → Atoms → List Atoms
written_optima given p S = if given.all_optima then optima p else S ∷ []

-- the text where there is no answer: the number of answers is written too, unless consequences are asked for
abbrev pub none_text : Mode → List ℕ
none_text Enum = closing (codes "UNSATISFIABLE") (decimal 0)
none_text Opt = closing (codes "UNSATISFIABLE") (decimal 0)
none_text (Consequences w) = ended_line (codes "UNSATISFIABLE")

-- the optima that are listed where all are asked for; the best one is told without a list
abbrev pub listed_optima : Options → Program → List Atoms
listed_optima given p = if given.all_optima then optima p else []

-- the text as JSON of results of this mode and end, with these answers, this best one with its cost, and these consequences, which the
-- texts tell
abbrev pub json_of : Options → Program → Mode → End → List Atoms → Option (Atoms × List ℤ) → Option Atoms → List (List ℕ) → List ℕ
json_of given p mode end Ss best known texts = json_with p (record { mode = mode; end = end; answers = Ss; best = best; known = known }) texts (is_brief given)

-- the line of the consequences: the texts of the outputs that some answer shows, or every one; or the numbers of the atoms
abbrev pub told_line : Bool → Reasoning → Program → List ℕ
told_line names w p = named_line (if names then told_texts w p else map decimal (consequences w p (answers p)))

-- what is told in lines, or as JSON
abbrev pub InForm : Form → Type 0 → Type 0 → Type 0
InForm Text lines json = lines
InForm Json lines json = json

-- There is no answer, and the text says so.
abbrev pub TellsNone : Options → Program → Mode → List ℕ → Type 0
TellsNone given p mode text = (answers p ≡ []) × InForm given.form (text ≡ none_text mode) (text ≡ json_of given p mode Finished [] None None [])

-- There are answers, and all that is asked for is written: all answers; one optimum, or all of them, with the cost; what some answer
-- shows, or every one.
abbrev pub TellsAll : Options → Program → Mode → List ℕ → Type 0
TellsAll given p Enum text = ¬ (answers p ≡ []) × InForm given.form (text ≡ listed given p (answers p) ++ closing (codes "SATISFIABLE") (decimal (length (answers p))))
    (text ≡ json_of given p Enum Finished (answers p) None None [])
TellsAll given p Opt text = (S : Atoms) × Contains (optima p) S × InForm given.form (text ≡ listed given p (written_optima given p S) ++ cost_line (cost p S)
    ++ closing (codes "OPTIMUM FOUND") (decimal (length (written_optima given p S))))
    (text ≡ json_of given p Opt Finished (listed_optima given p) (Some (S, cost p S)) None [])
TellsAll given p (Consequences w) text = ¬ (answers p ≡ []) × InForm given.form (text ≡ told_line given.names w p ++ ended_line (codes "CONSEQUENCES FOUND"))
    (text ≡ json_of given p (Consequences w) Finished [] None (Some (consequences w p (answers p))) (told_texts w p))

-- As many answers as `--models` asks for are written, or with `--opt-all` as many optima; with `--stream` in lines the first of all.
abbrev pub TellsEnough : Options → Program → Mode → List ℕ → Type 0
TellsEnough given p Enum text = (Ss : List Atoms) × InForm given.form (ArePickedBy given.stream given.models (answers p) Ss × (text ≡ listed given p Ss
    ++ closing (codes "LIMIT REACHED") (decimal given.models ++ codes "+")))
    (ArePicked given.models (answers p) Ss × (text ≡ json_of given p Enum Limited Ss None None []))
TellsEnough given p Opt text = (S : Atoms) × (Ss : List Atoms) × Contains (optima p) S × InForm given.form
    (ArePickedBy given.stream given.models (optima p) Ss × (text ≡ listed given p Ss ++ cost_line (cost p S) ++ closing (codes "LIMIT REACHED") (decimal given.models ++ codes "+")))
    (ArePicked given.models (optima p) Ss × (text ≡ json_of given p Opt Limited Ss (Some (S, cost p S)) None []))
TellsEnough given p (Consequences w) text = ⊥

-- ---- the theorem
-- A program was read, and what was written, after what the sink held before, is a text that tells this of it. All of it was sent on.
pub record Wrote (given : Options) (left held held' : Option (List ℕ)) (is_sent : Bool) (Tells : Program → Mode → List ℕ → Type 0) : Type 0 where
  pub program : Program
  pub input : IsInput given.format given.make left program
  pub text : List ℕ
  pub tells : Tells program (mode_of given.mode program) text
  pub written : Appends held held' text
  pub sent : is_sent ≡ true

-- What a run has read and written that finished, with an answer (30) or without (20), or that reached its limit (11). Of a run that
-- ended in another way nothing is said here.
abbrev pub IsWhole : Options → Option (List ℕ) → Option (List ℕ) → Option (List ℕ) → Bool → Status → Type 0
IsWhole given left held held' is_sent All = Wrote given left held held' is_sent (TellsAll given)
IsWhole given left held held' is_sent NoModel = Wrote given left held held' is_sent (TellsNone given)
IsWhole given left held held' is_sent Enough = Wrote given left held held' is_sent (TellsEnough given)
IsWhole given left held held' is_sent status = Unit {0}
