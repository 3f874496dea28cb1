-- The text of results.
use Rattle.std.specs.Prelude.{ℕ, zero, suc, ◌+◌, List, [], ◌∷◌, ◌++◌, map, filter, flat_map, length, ℤ, Option, None, Some, Bool, if◌then◌else◌, codes, decimal}
use Rattle.std.specs.List.{join_with_byte}
use Rattle.std.specs.Fmt.{signed_decimal}
use Rattle.asp_model.specs.declared.program.Program.{Program}
use Rattle.asp_model.specs.declared.results.End.{End}
use Rattle.asp_model.specs.declared.results.End.TheVariants.{Finished, Limited, Unfinished}
use Rattle.asp_model.specs.declared.results.Mode.{Mode}
use Rattle.asp_model.specs.declared.results.Mode.TheVariants.{Enum, Opt, Consequences}
use Rattle.asp_model.specs.Found.{Found}
use Rattle.asp_model.specs.Sets.{Atoms}
use Rattle.asp_model.specs.Holding.{all_hold}

abbrev pub ended_line : List ℕ → List ℕ
ended_line bytes = bytes ++ 10 ∷ []

-- the texts of the outputs whose conditions hold in S, in the order of the statements
abbrev pub shown : Program → Atoms → List (List ℕ)
shown p S = map (λ o. o.text) (filter (λ o. all_hold S o.condition) p.outputs)

-- the i-th answer's two lines
abbrev pub answer_lines : Program → ℕ → Atoms → List ℕ
answer_lines p i S = ended_line (codes "Answer: " ++ decimal i) ++ ended_line (join_with_byte 32 (shown p S))

-- the lines of the answers, of which the first is the i-th
abbrev pub answers_from : Program → ℕ → List Atoms → List ℕ
answers_from p i [] = []
answers_from p i (S ∷ answers) = answer_lines p i S ++ answers_from p (i + 1) answers

-- the numbers of the cost, each behind a blank
abbrev pub cost_line : List ℤ → List ℕ
cost_line c = ended_line (codes "Optimization:" ++ flat_map (λ q. 32 ∷ signed_decimal q) c)

-- the answers of a best one, where there is one
abbrev pub best_answers : Option (Atoms × List ℤ) → List Atoms
best_answers None = []
best_answers (Some best) = best.0 ∷ []

abbrev pub best_cost_line : Option (Atoms × List ℤ) → List ℕ
best_cost_line None = []
best_cost_line (Some best) = cost_line best.1

-- the answers that are listed, or where none is the best
abbrev pub bests : Option (Atoms × List ℤ) → List Atoms → List Atoms
bests best [] = best_answers best
bests best (S ∷ answers) = S ∷ answers

-- the answers that a run recorded: in an optimisation those that it listed, or else the best alone; of consequences none is listed
abbrev pub recorded : Mode → Found → List Atoms
recorded Enum r = r.answers
recorded Opt r = bests r.best r.answers
recorded (Consequences w) r = []

-- the atoms that hold in some or in all answers, each behind a blank
abbrev pub consequences_line : Option Atoms → List ℕ
consequences_line None = []
consequences_line (Some B) = ended_line (codes "Consequences:" ++ flat_map (λ a. 32 ∷ decimal a) B)

-- what stands between the answers and the word line: in an optimisation the cost, and what holds where that was sought
abbrev pub sums_text : Mode → Found → List ℕ
sums_text Enum r = []
sums_text Opt r = best_cost_line r.best
sums_text (Consequences w) r = consequences_line r.known

abbrev pub how_many : Option Atoms → ℕ
how_many None = 0
how_many (Some B) = 1

-- how many answers are recorded; of consequences one, where they stand
abbrev pub found_count : Mode → Found → ℕ
found_count Enum r = length r.answers
found_count Opt r = length (bests r.best r.answers)
found_count (Consequences w) r = how_many r.known

-- what is said of a run that recorded so many answers
abbrev pub verdict : End → Mode → ℕ → List ℕ
verdict Finished mode zero = codes "UNSATISFIABLE"
verdict Finished Enum (suc k) = codes "SATISFIABLE"
verdict Finished Opt (suc k) = codes "OPTIMUM FOUND"
verdict Finished (Consequences w) (suc k) = codes "CONSEQUENCES FOUND"
verdict Limited mode k = codes "LIMIT REACHED"
verdict Unfinished mode zero = codes "UNKNOWN"
verdict Unfinished mode (suc k) = codes "BUDGET SPENT"

-- A count of a run that isn't finished may not be the last.
abbrev pub count_mark : End → List ℕ
count_mark Finished = []
count_mark Limited = codes "+"
count_mark Unfinished = codes "+"

-- Consequences aren't counted.
abbrev pub count_line : Mode → End → ℕ → List ℕ
count_line Enum end k = ended_line (codes "Models: " ++ decimal k ++ count_mark end)
count_line Opt end k = ended_line (codes "Models: " ++ decimal k ++ count_mark end)
count_line (Consequences w) end k = []

-- the word line and the count line
abbrev pub closing_lines : Found → ℕ → List ℕ
closing_lines r k = ended_line (verdict r.end r.mode k) ++ count_line r.mode r.end k

-- A brief text leaves out the lines of the answers.
abbrev pub results_text : Program → Found → Bool → List ℕ
results_text p r brief =
    (if brief then [] else answers_from p 1 (recorded r.mode r)) ++ sums_text r.mode r ++ closing_lines r (found_count r.mode r)
