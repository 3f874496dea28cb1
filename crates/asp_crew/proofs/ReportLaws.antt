-- What is told of a book is a report.
use Rattle.std.proofs.Common.{◌≡◌, ℕ, List, [], None, sym, ap, ◌∙◌, subst}
use Rattle.std.specs.Prelude.{ℤ, option_map}
use Rattle.asp_model.specs.declared.program.Program.{Program}
use Rattle.asp_model.specs.declared.results.Ask.{Ask}
use Rattle.asp_model.specs.Asked.{limit_of}
use Rattle.asp_path.specs.Trees.{leaf_count}
use Rattle.asp_core.specs.declared.goal.Goal.{Goal}
use Rattle.asp_core.specs.declared.task.Task.{Task}
use Rattle.asp_core.specs.Boards.{Board, common_by, goal_of, listed_by, showing_of, sought, start}
use Rattle.asp_core.specs.Events.{replay}
use Rattle.asp_core.specs.Sorting.{sorted_once}
use Rattle.asp_book.specs.Books.{Booked, board, IsJournalOf}
use Rattle.asp_book.specs.Fuels.{IsOwnFuel}
use Rattle.asp_crew_laws.specs.declared.report.Report.{Report}
use Rattle.asp_crew_laws.specs.Runs.{asks, task_of, with_cost}
use Rattle.asp_crew_laws.specs.Reports.{end_of, IsIdle, IsToldBy, IsWorkedOff, IsReport}
use Rattle.asp_crew_laws.proofs.PlayedLaws.{told-reports}
use Rattle.asp_crew.specs.Running.{IsRunFor}

pub told-by : (v : Booked) (r : Report) (s : Board) → IsIdle (board v) → IsWorkedOff (board v) r.unpaid → s ≡ board v →
    r.results.answers ≡ sorted_once (listed_by (sought s.task.goal) s.answers) → r.results.best ≡ option_map (with_cost s.task.program) s.best →
    r.results.known ≡ common_by (sought s.task.goal) s.task.program (showing_of s) → r.results.end ≡ end_of s → r.leaves ≡ leaf_count s.nodes →
    r.spent ≡ s.burnt → IsOwnFuel (board v) r.paid → IsToldBy (board v) r
told-by v r s idle over state answers best common end leaves spent paid = record {
  answers = answers ∙ ap (λ (b : Board). sorted_once (listed_by (sought b.task.goal) b.answers)) state;
  common = common ∙ ap (λ (b : Board). common_by (sought b.task.goal) b.task.program (showing_of b)) state;
  best = best ∙ ap (λ (b : Board). option_map (with_cost b.task.program) b.best) state;
  end = end ∙ ap end_of state;
  leaves = leaves ∙ ap (λ (b : Board). leaf_count b.nodes) state;
  spent = spent ∙ ap (λ (b : Board). b.burnt) state;
  paid = paid;
  idle = idle;
  over = over;
}

pub reports : (ask : Ask) (v : Booked) (r : Report) → IsRunFor ask v.task → IsJournalOf v.task v.journal → r.journal ≡ v.journal →
    IsToldBy (board v) r → r.second ≡ None → r.results.mode ≡ ask.mode →
    IsReport v.task.program (asks ask.mode ask.models ask.by_name) v.task.budget r
reports ask v r run lawful journal told alone mode_is =
    let same : board v ≡ replay (task_of v.task.program ask v.task.budget) r.journal =
    ap (λ (t : Task). replay t v.journal) run ∙ ap (replay (task_of v.task.program ask v.task.budget)) (sym journal) in
    told-reports v.task.program ask.mode ask.models v.task.budget ask.by_name r
    (subst (λ (t : Task). IsJournalOf t r.journal) run (subst (IsJournalOf v.task) (sym journal) lawful))
    (subst (λ (b : Board). IsToldBy b r) same told) alone mode_is

-- ---- a book at which nothing has happened
pub begun : (p : Program) (ask : Ask) (budget : ℕ) (g : Goal) (n : ℕ) (q : List ℤ) (s : Board) (v : Booked) → g ≡ goal_of ask.mode ask.by_name →
    n ≡ limit_of ask.mode ask.models → q ≡ [] → s ≡ start (record { program = p; goal = g; budget = budget; limit = n; query = q }) →
    v ≡ record { task = s.task; journal = [] } → v ≡ record { task = task_of p ask budget; journal = [] }
begun p ask budget g n q s v goal limit none is now =
    now ∙ ap (λ (b : Board). let x : Booked = record { task = b.task; journal = [] } in x) is
    ∙ ap (λ (h : Goal). let x : Booked = record { task = record { program = p; goal = h; budget = budget; limit = n; query = q }; journal = [] } in x) goal
    ∙ ap (λ (k : ℕ). let x : Booked = record { task = record { program = p; goal = goal_of ask.mode ask.by_name; budget = budget; limit = k; query = q }; journal = [] } in x) limit
    ∙ ap (λ (l : List ℤ). let x : Booked =
    record {
      task = record {
        program = p;
        goal = goal_of ask.mode ask.by_name;
        budget = budget;
        limit = limit_of ask.mode ask.models;
        query =
            l;
      };
      journal = [];
    } in x) none

pub begun-report : (p : Program) (ask : Ask) (budget : ℕ) (v w : Booked) (r : Report) → v ≡ record { task = task_of p ask budget; journal = [] } →
    w.task ≡ v.task → IsReport w.task.program (asks ask.mode ask.models ask.by_name) w.task.budget r →
    IsReport p (asks ask.mode ask.models ask.by_name) budget r
begun-report p ask budget v w r e same is = subst (λ (t : Task). IsReport t.program (asks ask.mode ask.models ask.by_name) t.budget r) (same ∙ ap (λ (x : Booked). x.task) e) is
