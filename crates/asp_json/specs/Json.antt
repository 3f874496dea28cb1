-- The results of a run as JSON, with the keys that clasp has.
use Rattle.std.specs.Prelude.{ℕ, zero, suc, List, [], ◌∷◌, ◌++◌, map, ℤ, Option, None, Some, Bool, if◌then◌else◌, codes, decimal}
use Rattle.std.specs.List.{join_with_byte}
use Rattle.std.specs.Fmt.{signed_decimal}
use Rattle.asp_model.specs.declared.program.Program.{Program}
use Rattle.asp_model.specs.declared.results.End.{End}
use Rattle.asp_model.specs.declared.results.End.TheVariants.{Finished, Limited, Unfinished}
use Rattle.asp_model.specs.declared.results.Mode.{Mode}
use Rattle.asp_model.specs.declared.results.Mode.TheVariants.{Enum, Opt, Consequences}
use Rattle.asp_model.specs.declared.results.Reasoning.{Reasoning}
use Rattle.asp_model.specs.declared.results.Reasoning.TheVariants.{Brave, Cautious}
use Rattle.asp_model.specs.Found.{Found}
use Rattle.asp_model.specs.Sets.{Atoms}
use Rattle.asp_model.specs.Texts.{bests, found_count, shown}
use Rattle.asp_json.specs.Quoting.{quoted}

-- values in brackets, a comma between two
abbrev pub array : List (List ℕ) → List ℕ
array values = codes "[" ++ join_with_byte 44 values ++ codes "]"

abbrev pub costs_text : List ℤ → List ℕ
costs_text c = codes ",\"Costs\":" ++ array (map signed_decimal c)

-- the cost of the best answer, where there is one
abbrev pub best_costs : Option (Atoms × List ℤ) → List ℕ
best_costs None = []
best_costs (Some best) = costs_text best.1

-- an answer, on a line of its own: the texts that it shows, and the cost of the best, where there is one
abbrev pub witness : Program → Option (Atoms × List ℤ) → Atoms → List ℕ
witness p best S = codes "\n{\"Value\":" ++ array (map quoted (shown p S)) ++ best_costs best ++ codes "}"

-- the answers, where there is one
abbrev pub witnesses : Program → Option (Atoms × List ℤ) → List Atoms → List ℕ
witnesses p best [] = []
witnesses p best (S ∷ Ss) = codes "\"Witnesses\":[" ++ join_with_byte 44 (map (witness p best) (S ∷ Ss)) ++ codes "\n]"

-- the answers that were recorded: in an optimisation with their cost; of consequences none is
abbrev pub recorded_text : Program → Mode → Found → List ℕ
recorded_text p Enum r = witnesses p None r.answers
recorded_text p Opt r = witnesses p r.best (bests r.best r.answers)
recorded_text p (Consequences w) r = []

-- A brief text leaves out the answers.
abbrev pub call_text : Program → Found → Bool → List ℕ
call_text p r brief = codes "{\"Solver\":\"aspenum\",\"Call\":[{" ++ (if brief then [] else recorded_text p r.mode r) ++ codes "}]"

-- the texts of the outputs that are shown where the atoms hold that are known of some or all answers
abbrev pub known_texts : Program → Option Atoms → List (List ℕ)
known_texts p None = []
known_texts p (Some B) = shown p B

-- these texts, where something is known
abbrev pub consequences_text : Option Atoms → List (List ℕ) → List ℕ
consequences_text None texts = []
consequences_text (Some B) texts = codes ",\"Consequences\":" ++ array (map quoted texts)

-- the same where it was asked for
abbrev pub known_text : Mode → Found → List (List ℕ) → List ℕ
known_text Enum r texts = []
known_text Opt r texts = []
known_text (Consequences w) r texts = consequences_text r.known texts

-- what is said of a run that recorded so many answers; an optimisation reaches its limit only after it has found the best cost
abbrev pub result_word : End → Mode → ℕ → List ℕ
result_word Finished mode zero = codes "UNSATISFIABLE"
result_word Finished Enum (suc k) = codes "SATISFIABLE"
result_word Finished Opt (suc k) = codes "OPTIMUM FOUND"
result_word Finished (Consequences w) (suc k) = codes "SATISFIABLE"
result_word Limited mode zero = codes "UNKNOWN"
result_word Limited Enum (suc k) = codes "SATISFIABLE"
result_word Limited Opt (suc k) = codes "OPTIMUM FOUND"
result_word Limited (Consequences w) (suc k) = codes "SATISFIABLE"
result_word Unfinished mode zero = codes "UNKNOWN"
result_word Unfinished mode (suc k) = codes "SATISFIABLE"

-- whether there may be more answers
abbrev pub more : End → List ℕ
more Finished = codes "no"
more Limited = codes "yes"
more Unfinished = codes "yes"

-- whether the cost is known to be the least
abbrev pub proven : End → List ℕ
proven Finished = codes "yes"
proven Limited = codes "yes"
proven Unfinished = codes "unknown"

-- how many of so many answers are known to cost least
abbrev pub proven_count : End → ℕ → ℕ
proven_count Finished k = k
proven_count Limited k = k
proven_count Unfinished k = 0

-- what is known of the best cost, where there is one
abbrev pub optimum_text : End → ℕ → Option (Atoms × List ℤ) → List ℕ
optimum_text end k None = []
optimum_text end k (Some best) = codes ",\"Optimum\":\"" ++ proven end ++ codes "\",\"Optimal\":" ++ decimal (proven_count end k) ++ costs_text best.1

abbrev pub reasoning_key : Reasoning → List ℕ
reasoning_key Brave = codes ",\"Brave\":\""
reasoning_key Cautious = codes ",\"Cautious\":\""

-- of an optimisation what is known of its cost; of consequences whether they are known to be all
abbrev pub best_text : Mode → Found → ℕ → List ℕ
best_text Enum r k = []
best_text Opt r k = optimum_text r.end k r.best
best_text (Consequences w) r k = reasoning_key w ++ proven r.end ++ codes "\""

abbrev pub result_text : Found → ℕ → List ℕ
result_text r k = codes ",\"Result\":\"" ++ result_word r.end r.mode k ++ codes "\""

abbrev pub models_text : Found → ℕ → List ℕ
models_text r k = codes ",\"Models\":{\"Number\":" ++ decimal k ++ codes ",\"More\":\"" ++ more r.end ++ codes "\"" ++ best_text r.mode r k ++ codes "}"

-- what is said of the run, and of the answers together
abbrev pub summary_text : Found → List (List ℕ) → ℕ → List ℕ
summary_text r texts k = known_text r.mode r texts ++ result_text r k ++ models_text r k

-- what follows the answers
abbrev pub closing_text : Found → List (List ℕ) → ℕ → List ℕ
closing_text r texts k = summary_text r texts k ++ codes "}\n"

-- with these texts where consequences are told
abbrev pub json_with : Program → Found → List (List ℕ) → Bool → List ℕ
json_with p r texts brief = call_text p r brief ++ closing_text r texts (found_count r.mode r)

abbrev pub json_text : Program → Found → Bool → List ℕ
json_text p r brief = json_with p r (known_texts p r.known) brief
