-- Consequences by name: the texts of the outputs that what is known of some or all answers shows.
use Rattle.std.specs.Prelude.{ℕ, Bool, true, false, if◌then◌else◌, List, [], ◌∷◌, ◌++◌, flat_map, Option, None, Some, codes}
use Rattle.asp_model.specs.declared.program.Program.{Program}
use Rattle.asp_model.specs.declared.results.Mode.{Mode}
use Rattle.asp_model.specs.declared.results.Mode.TheVariants.{Enum, Opt, Consequences}
use Rattle.asp_model.specs.Found.{Found}
use Rattle.asp_model.specs.Sets.{Atoms}
use Rattle.asp_model.specs.Texts.{answers_from, best_cost_line, closing_lines, consequences_line, ended_line, found_count, recorded, shown}

-- the texts, each after a blank
abbrev pub named_line : List (List ℕ) → List ℕ
named_line texts = ended_line (codes "Consequences:" ++ flat_map (λ t. 32 ∷ t) texts)

-- the texts of the outputs that are shown where these atoms hold
abbrev pub known_names : Program → Option Atoms → List ℕ
known_names p None = []
known_names p (Some B) = named_line (shown p B)

-- by name, or by the atoms' numbers
abbrev pub known_line : Bool → Program → Option Atoms → List ℕ
known_line true p known = known_names p known
known_line false p known = consequences_line known

-- what stands between the answers and the word line
abbrev pub sums_line : Bool → Program → Mode → Found → List ℕ
sums_line names p Enum r = []
sums_line names p Opt r = best_cost_line r.best
sums_line names p (Consequences w) r = known_line names p r.known

-- the text of results: a brief one leaves out the lines of the answers; `names` says whether consequences are told by name
abbrev pub printed_text : Program → Found → Bool → Bool → List ℕ
printed_text p r brief names =
    (if brief then [] else answers_from p 1 (recorded r.mode r)) ++ sums_line names p r.mode r ++ closing_lines r (found_count r.mode r)
