-- The task of a ledger: all answers of a program, or all below a cost.
use Rattle.std.specs.Prelude.{◌≡◌, ℕ, false, [], None}
use Rattle.asp_model.specs.declared.program.Program.{Program}
use Rattle.asp_core.specs.declared.goal.Goal.{Goal}
use Rattle.asp_core.specs.declared.goal.Goal.TheVariants as goal
use Rattle.asp_core.specs.declared.task.Task.{Task}
use Rattle.asp_core.specs.Boards.{optimises, sought}

-- all answers that the goal lists are sought, within so many units
abbrev pub listing : Program → Goal → ℕ → Task
listing p g budget = record { program = p; goal = g; budget = budget; limit = 0; query = [] }

-- all answers are sought
abbrev pub enumeration : Program → ℕ → Task
enumeration p budget = listing p goal.Enum budget

-- The goal lists answers: it seeks neither what they have in common nor one that none betters.
pub record ListsAnswers (g : Goal) : Type 0 where
  pub apart : sought g ≡ None
  pub plain : optimises g ≡ false

-- All answers that a goal lists are sought, with no limit and no query.
pub record IsListing (t : Task) : Type 0 where
  pub answers : ListsAnswers t.goal
  pub is : t ≡ listing t.program t.goal t.budget
