-- How a board is stored: the best with its cost, the minimize statements by which sets are priced, and the rows of the different answers.
use Rattle.std.specs.Prelude.{◌≡◌, ◌+◌, ◌<◌, ◌≤◌, Bool, true, false, List, [], ◌∷◌, ◌++◌, length, map, Option, None, Some, option_map}
use Rattle.std.specs.Option.{IfSome}
use Rattle.std.specs.Vec.{vec_capacity}
use Rattle.asp_model.specs.declared.program.Program.{Program}
use Rattle.asp_model.specs.declared.results.Reasoning.{Reasoning}
use Rattle.asp_model.specs.Sets.{Atoms}
use Rattle.asp_model.specs.Models.{atoms_of}
use Rattle.asp_vars.specs.Knowing.{Knowing}
use Rattle.asp_model.specs.Costs.{cost}
use Rattle.asp_model.specs.Sound.{IsSound}
use Rattle.asp_rows.specs.declared.row.Row.{Row}
use Rattle.asp_rows.specs.Listed.{AreRows}
use Rattle.asp_path.specs.Trees.{held_count}
use Rattle.asp_core.specs.declared.state.State.TheInside.{Inside}
use Rattle.asp_core.specs.declared.goal.Goal.{Goal}
use Rattle.asp_core.specs.declared.goal.Goal.TheVariants as goal
use Rattle.asp_core.specs.Boards.{Board, known_by, showing, sought, unasked}
use Rattle.asp_core.specs.Invariant.{IsBoard}
use Rattle.asp_core.specs.Sorting.{sorted_once, with_set}

-- the answers delivered: those listed, or where consequences are sought those told, of which the code keeps only what they have in common
abbrev pub answers_in : Option Reasoning → List Atoms → List Atoms → List Atoms
answers_in None listed told = listed
answers_in (Some r) listed told = told

abbrev pub board_of : Inside → Board
board_of s = record {
  task = record { program = s.program.value; goal = s.goal; budget = s.budget; limit = s.limit; query = s.query };
  nodes = s.tree;
  answers = answers_in (sought s.goal) s.answers.sets s.told.items;
  best = option_map (λ x. x.0) s.best;
  pool = s.pool;
  out = s.out.items;
  burnt = s.burnt;
  reasons = s.reasons.items;
}

-- the set that stands beside the answers: where consequences are asked for by name, that which shows what isn't asked for
abbrev pub seed_by : Bool → Reasoning → Program → Option Atoms
seed_by false r p = None
seed_by true r p = Some (unasked r p)

abbrev pub seed_of : Goal → Program → Option Atoms
seed_of goal.Enum p = None
seed_of goal.Opt p = None
seed_of (goal.Ties c) p = None
seed_of (goal.Consequences r n) p = seed_by n r p

-- One answer more is known; beside the first stands the seed.
abbrev pub with_answer : Option Atoms → List Atoms → Atoms → List Atoms
with_answer None K S = K ++ S ∷ []
with_answer (Some T) [] S = T ∷ S ∷ []
with_answer (Some T) (U ∷ K) S = U ∷ K ++ S ∷ []

-- Where consequences are sought none is listed, and what the answers told have in common and the program's atoms are there.
abbrev pub IsSeen : Goal → Option Reasoning → Program → Option Knowing → List Atoms → List Atoms → Atoms → Type 0
IsSeen g None p known listed told atoms = known ≡ None
IsSeen g (Some r) p known listed told atoms = (known ≡ known_by (Some r) p (showing g p told)) × (listed ≡ []) × (atoms ≡ atoms_of p)

-- Rows among these atoms, sorted, of the different ones among these sets.
pub record AreDifferent (atoms : Atoms) (kept : List Row) (sets : List Atoms) : Type 0 where
  pub rows : AreRows atoms kept
  pub sorted : map (λ row. row.set) kept ≡ sorted_once sets

-- The row of one set more was put among them, if it wasn't there.
pub record Counts (atoms : Atoms) (old new : List Row) (S : Atoms) : Type 0 where
  pub rows : AreRows atoms new
  pub more : map (λ row. row.set) new ≡ with_set S (map (λ row. row.set) old)

pub record IsState (s : Inside) : Type 0 where
  pub board : IsBoard (board_of s)
  pub priced : s.prices.minimize ≡ s.program.value.minimize
  pub sound : IsSound s.prices
  pub costed : IfSome s.best (λ x. x.1 ≡ cost s.program.value x.0)
  -- With a limit, the different answers stand in a sorted set.
  pub sorted : 0 < s.limit → AreDifferent (atoms_of s.program.value) s.different.keys (answers_in (sought s.goal) s.answers.sets s.told.items)
  pub seen : IsSeen s.goal (sought s.goal) s.program.value s.known s.answers.sets s.told.items s.atoms.items
  pub seeded : s.seed ≡ seed_of s.goal s.program.value
  -- The answers are rows among the program's atoms.
  pub among : s.answers.atoms ≡ atoms_of s.program.value
  -- There is a free place for the reason of each held leaf.
  pub room : length s.reasons.items + held_count s.tree ≤ vec_capacity s.reasons
