-- What holds of a board after every lawful list of events.
use Rattle.std.specs.Prelude.{◌≡◌, ℕ, ◌+◌, ◌<◌, ◌≤◌, ◌==◌, nat_eq, All, List, length, map, filter, false, IsTrue, MatchOption}
use Rattle.std.specs.List.{list_any, AllByRecursion, IsDistinct}
use Rattle.std.specs.Option.{IfSome}
use mathlib.Core.List.{IsPrefix}
use Rattle.asp_model.specs.Sets.{Atoms}
use Rattle.asp_model.specs.Holding.{all_hold}
use Rattle.asp_model.specs.Costs.{cost, betters}
use Rattle.asp_model.specs.Consequences.{consequences_of}
use Rattle.asp_vars.specs.Literals.{Literal}
use Rattle.asp_vars.specs.Numbering.{literal_of, values}
use Rattle.asp_vars.specs.Entailment.{HitsOnly}
use Rattle.asp_vars.specs.Conflicts.{has_all}
use Rattle.asp_core.specs.declared.reason.Reason.{Reason}
use Rattle.asp_path.specs.declared.status.Status.TheVariants as status
use Rattle.asp_path.specs.Trees.{Node, cube_of, status_of, leaves_hit}
use Rattle.asp_core.specs.declared.goal.Goal.{Goal}
use Rattle.asp_core.specs.declared.goal.Goal.TheVariants as goal
use Rattle.asp_core.specs.Units.{total_out}
use Rattle.asp_core.specs.declared.task.Task.{Task}
use Rattle.asp_core.specs.Boards.{Board, wanted, is_answer, lists, optimises, distinct, is_excused, showing_by}
use Rattle.asp_core.specs.Sorting.{sorted_once, answers_of}
use Rattle.asp_core.specs.Events.{held_by, IsVariable}

-- The cube begins with the wanted literals, and its variables are the program's.
pub record IsCube (t : Task) (cube : List Literal) : Type 0 where
  pub begins : IsPrefix (map (literal_of t.program) (wanted t)) cube
  pub variables : All (λ l. IsVariable t.program l.var) cube

-- If the node is a closed leaf, each stable model that hits its cube is excused.
abbrev pub IsSettled : Board → Node → Type 0
IsSettled b n = n.status ≡ status.Closed → HitsOnly b.task.program (is_excused b) n.cube

-- The leaf is closed; its nogood lies in its cube, and each stable model that hits it is excused.
pub record IsReason (b : Board) (r : Reason) : Type 0 where
  pub closed : status_of b.nodes r.leaf ≡ status.Closed
  pub within : IsTrue (has_all (cube_of b.nodes r.leaf) r.nogood)
  pub settled : HitsOnly b.task.program (is_excused b) r.nogood

pub record IsBoard (b : Board) : Type 0 where
  -- Each set that meets the wanted literals hits exactly one leaf's cube.
  pub covered : (S : Atoms) → IsTrue (all_hold S (wanted b.task)) → leaves_hit (values b.task.program S) b.nodes ≡ 1
  -- Each delivered set is an answer that the goal lists.
  pub delivered : AllByRecursion (λ S. IsTrue (lists b.task S) × IsTrue (is_answer b.task S)) b.answers
  -- With a limit, no more different sets are delivered.
  pub limited : 0 < b.task.limit → length (distinct b.answers) ≤ b.task.limit
  -- The best is an answer; none stands where no best is kept.
  pub best : IfSome b.best (λ S. IsTrue (optimises b.task.goal) × IsTrue (is_answer b.task S))
  pub settled : AllByRecursion (IsSettled b) b.nodes
  pub units : b.pool + total_out b.out + b.burnt ≡ b.task.budget
  -- Each number has at most one entry of units that are out.
  pub single : IsDistinct nat_eq (map (λ x. x.0) b.out)
  -- Each number holds at most one leaf.
  pub apart : (s : ℕ) → held_by s b.nodes ≤ 1
  pub explained : AllByRecursion (IsReason b) b.reasons
  -- Each closed leaf has its nogood.
  pub complete : (n : ℕ) → status_of b.nodes n ≡ status.Closed → IsTrue (list_any (λ r. r.leaf == n) b.reasons)
  pub cubes : AllByRecursion (λ n. IsCube b.task n.cube) b.nodes

-- ---- a finished board
-- It is an answer that no answer betters.
abbrev pub IsOptimum : Task → Atoms → Type 0
IsOptimum t S = IsTrue (is_answer t S) × ((T : Atoms) → IsTrue (is_answer t T) → betters (cost t.program T) (cost t.program S) ≡ false)

abbrev pub HasResult : Goal → Board → Type 0
-- The delivered sets, sorted and made single, are the answers.
HasResult goal.Enum b = sorted_once b.answers ≡ answers_of b.task
-- They are the answers below the cost.
HasResult (goal.Ties c) b = sorted_once b.answers ≡ filter (lists b.task) (answers_of b.task)
-- They have in common what the answers have.
HasResult (goal.Consequences r n) b = consequences_of r b.task.program (showing_by n r b.task.program b.answers) ≡ consequences_of r b.task.program (showing_by n r b.task.program (answers_of b.task))
-- None betters the best; there is none where no answer is.
HasResult goal.Opt b = MatchOption b.best ((S : Atoms) → is_answer b.task S ≡ false) (IsOptimum b.task)
