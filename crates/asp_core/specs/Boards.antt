-- The board of a search: the tree of paths with its leaves, what was recorded, and the units of work.
use Rattle.std.specs.Prelude.{◌≡◌, ℕ, ◌==◌, nat_le, Bool, true, false, not, ◌&&◌, if◌then◌else◌, List, [], ◌∷◌, ◌++◌, filter, map, fold, length, Option, Some, None, ℤ}
use Rattle.asp_model.specs.declared.program.Program.{Program}
use Rattle.std.specs.List.{list_any, AllByRecursion}
use Rattle.asp_model.specs.Sets.{Atoms, has, same_set}
use Rattle.asp_model.specs.Holding.{atom_of, all_hold}
use Rattle.asp_model.specs.Models.{is_stable, atoms_of}
use Rattle.asp_model.specs.Costs.{cost, betters}
use Rattle.asp_model.specs.Consequences.{used_up, common_sets, consequences_of, told_set}
use Rattle.asp_model.specs.declared.results.Reasoning.{Reasoning}
use Rattle.asp_vars.specs.Knowing.{Knowing}
use Rattle.asp_vars.specs.Numbering.{literal_of}
use Rattle.asp_vars.specs.Entailment.{costs_bound, is_done}
use Rattle.asp_path.specs.Trees.{Node, root}
use Rattle.asp_core.specs.declared.reason.Reason.{Reason}
use Rattle.asp_core.specs.declared.task.Task.{Task}
use Rattle.asp_core.specs.declared.goal.Goal.{Goal}
use Rattle.asp_core.specs.declared.goal.Goal.TheVariants as goal
use Rattle.asp_model.specs.declared.results.Mode.{Mode}
use Rattle.asp_model.specs.declared.results.Mode.TheVariants as mode

pub record Board : Type 0 where
  pub task : Task
  pub nodes : List Node
  pub answers : List Atoms
  pub best : Option Atoms
  pub pool : ℕ
  pub out : List (ℕ × ℕ)
  pub burnt : ℕ
  pub reasons : List Reason

-- The query's atoms stand in the program.
abbrev pub IsQuery : Program → List ℤ → Type 0
IsQuery p query = AllByRecursion (λ l. has (atoms_of p) (atom_of l) ≡ true) query

-- the literals that each answer meets
abbrev pub wanted : Task → List ℤ
wanted t = t.program.assumptions ++ t.query

abbrev pub is_answer : Task → Atoms → Bool
is_answer t S = is_stable t.program S && all_hold S (wanted t)

-- one open leaf, whose cube is the wanted literals; nothing recorded; all units in the pool
abbrev pub start : Task → Board
start t = record { task = t; nodes = root (map (literal_of t.program) (wanted t)); answers = []; best = None; pool = t.budget; out = []; burnt = 0; reasons = [] }

-- ---- what each goal asks
-- the goal of a mode's first search; `n` says whether consequences are asked for by name
abbrev pub goal_of : Mode → Bool → Goal
goal_of mode.Enum n = goal.Enum
goal_of mode.Opt n = goal.Opt
goal_of (mode.Consequences r) n = goal.Consequences r n

-- which consequences are sought, if any are
abbrev pub sought : Goal → Option Reasoning
sought goal.Enum = None
sought goal.Opt = None
sought (goal.Ties c) = None
sought (goal.Consequences r n) = Some r

-- whether the answer may be delivered: the goal lists it, or seeks what answers have in common
abbrev pub lists_by : Goal → Program → Atoms → Bool
lists_by goal.Enum p S = true
lists_by goal.Opt p S = false
lists_by (goal.Ties c) p S = not (costs_bound p c S)
lists_by (goal.Consequences r n) p S = true

abbrev pub lists : Task → Atoms → Bool
lists t S = lists_by t.goal t.program S

-- whether the best answer is kept
abbrev pub optimises : Goal → Bool
optimises goal.Enum = false
optimises goal.Opt = true
optimises (goal.Ties c) = false
optimises (goal.Consequences r n) = false

-- the cost that an answer must be smaller than to be of use
abbrev pub bound_by : Goal → Program → Option Atoms → Option (List ℤ)
bound_by goal.Enum p best = None
bound_by goal.Opt p None = None
bound_by goal.Opt p (Some S) = Some (cost p S)
bound_by (goal.Ties c) p best = c
bound_by (goal.Consequences r n) p best = None

abbrev pub bound_of : Board → Option (List ℤ)
bound_of b = bound_by b.task.goal b.task.program b.best

-- The search may have had this bound: in an optimisation the best stands and costs no more; among ties it is the bound itself.
abbrev pub IsBoundBy : Goal → Program → Option Atoms → List ℤ → Type 0
IsBoundBy goal.Enum p best c = ⊥
IsBoundBy goal.Opt p None c = ⊥
IsBoundBy goal.Opt p (Some S) c = betters c (cost p S) ≡ false
IsBoundBy (goal.Ties bound) p best c = bound ≡ Some c
IsBoundBy (goal.Consequences r n) p best c = ⊥

abbrev pub IsBoundOf : Board → List ℤ → Type 0
IsBoundOf b c = IsBoundBy b.task.goal b.task.program b.best c

-- ---- consequences by name
-- the program's atoms that stand in the condition of an output: by name these alone are asked for
abbrev pub output_atoms : Program → Atoms
output_atoms p = filter (λ a. list_any (λ o. list_any (λ l. atom_of l == a) o.condition) p.outputs) (atoms_of p)

-- the set that shows exactly the program's other atoms
abbrev pub unasked : Reasoning → Program → Atoms
unasked r p = told_set r p (output_atoms p)

-- The set counts from the first answer on.
abbrev pub beside : Atoms → List Atoms → List Atoms
beside T [] = []
beside T (S ∷ K) = T ∷ S ∷ K

-- the sets that show something where these answers are known: by name what isn't asked for counts as shown
abbrev pub showing_by : Bool → Reasoning → Program → List Atoms → List Atoms
showing_by false r p K = K
showing_by true r p K = beside (unasked r p) K

abbrev pub showing : Goal → Program → List Atoms → List Atoms
showing goal.Enum p K = K
showing goal.Opt p K = K
showing (goal.Ties c) p K = K
showing (goal.Consequences r n) p K = showing_by n r p K

-- the same of a board
abbrev pub showing_of : Board → List Atoms
showing_of b = showing b.task.goal b.task.program b.answers

-- the stable models that need not be found again: those listed, or where consequences are sought those that show nothing beside them
abbrev pub used : Board → List Atoms
used b = used_up (sought b.task.goal) b.task.program (showing_of b)

-- whether what was recorded makes the set of no use: it need not be found again, or costs no less than the bound
abbrev pub is_excused : Board → Atoms → Bool
is_excused b S = is_done b.task.program (used b) (bound_of b) S

-- ---- the limit
-- each set once
abbrev pub distinct : List Atoms → List Atoms
distinct sets = fold (λ Ts S. if list_any (same_set S) Ts then Ts else Ts ++ S ∷ []) [] sets

-- There is a limit, and as many different sets were delivered.
abbrev pub is_enough : Board → Bool
is_enough b = not (b.task.limit == 0) && nat_le b.task.limit (length (distinct b.answers))

-- ---- what a search may know
-- how many answers a search may know where these were delivered: each once, or where consequences are sought the one set that stands for
-- them
abbrev pub count_by : Option Reasoning → Program → List Atoms → ℕ
count_by None p K = length (distinct K)
count_by (Some r) p K = length (common_sets r p K)

abbrev pub known_count : Board → ℕ
known_count b = count_by (sought b.task.goal) b.task.program (showing_of b)

-- what a search for consequences takes over; nothing where none are sought
abbrev pub known_by : Option Reasoning → Program → List Atoms → Option Knowing
known_by None p K = None
known_by (Some r) p K = Some (record { program = p; reasoning = r; sets = common_sets r p K })

abbrev pub known_of : Board → Option Knowing
known_of b = known_by (sought b.task.goal) b.task.program (showing_of b)

-- what was found, for the report: the list of the answers, but where consequences are sought; and these
abbrev pub listed_by : Option Reasoning → List Atoms → List Atoms
listed_by None K = K
listed_by (Some r) K = []

abbrev pub common_by : Option Reasoning → Program → List Atoms → Option Atoms
common_by None p K = None
common_by (Some r) p K = consequences_of r p K
