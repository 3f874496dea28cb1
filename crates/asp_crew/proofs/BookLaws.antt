-- A book whose events are number 0's, and the search and units beside it.
use Rattle.std.proofs.Common.{◌≡◌, ℕ, ◌^◌, ◌<◌, arith, List, [], ◌∷◌, sym, ap, subst}
use Rattle.asp_model.specs.declared.results.Mode.{Mode}
use Rattle.asp_vars.specs.Literals.{Literal}
use Rattle.asp_vars.specs.Paid.{Units}
use Rattle.asp_path.specs.declared.status.Status.TheVariants as status
use Rattle.asp_path.specs.Trees.{is_leaf, cube_of, status_of}
use Rattle.asp_path.proofs.TreeLaws.{leaf-within}
use Rattle.asp_core.specs.declared.event.Event.{Event}
use Rattle.asp_core.specs.declared.task.Task.{Task}
use Rattle.asp_core.specs.Units.{out_of}
use Rattle.asp_core.specs.Boards.{Board, start}
use Rattle.asp_core.specs.Events.{Guard, happens}
use Rattle.asp_core.specs.Invariant.{IsBoard, IsCube}
use Rattle.asp_core.proofs.CubeLaws.{cube-at}
use Rattle.asp_core.proofs.HeldLaws.{run-push}
use Rattle.asp_core.proofs.GrowthLaws.{Grows-happens}
use Rattle.asp_core.proofs.ResultLaws.{IsBoard-replay, task-run}
use Rattle.asp_book.specs.Books.{Booked, board, with_events, IsJournalOf}
use Rattle.asp_search_laws.specs.Searching.{Searching}
use Rattle.asp_crew_laws.specs.Working.{IsAtWork}
use Rattle.asp_crew_laws.proofs.WorkLaws.{work-on}
use Rattle.asp_crew.specs.Running.{QueryStands, IsReady}

-- ---- the board's task
pub board-task : (v : Booked) → (board v).task ≡ v.task
board-task v = task-run (start v.task) v.journal

pub book-board : (v : Booked) → QueryStands v.task → IsJournalOf v.task v.journal → IsBoard (board v)
book-board v is lawful = IsBoard-replay v.task v.journal is lawful

-- ---- an event more
pub board-with : (v : Booked) (e : Event) → board (with_events v (e ∷ [])) ≡ happens (board v) e
board-with v e = run-push (start v.task) v.journal e

-- an event that leaves number 0's units alone
pub ready-with : (mode : Mode) (v w : Booked) (s : Searching) (f : Units) (e : Event) → IsReady mode v s f → Guard (board v) e →
    out_of (happens (board v) e).out 0 ≡ out_of (board v).out 0 → w ≡ with_events v (e ∷ []) → IsReady mode w s f
ready-with mode v w s f e is guard out now = subst (λ (x : Booked). IsReady mode x s f) (sym now) (record {
  task = is.task;
  program = is.program;
  mode_is = is.mode_is;
  work = subst (λ (b : Board). IsAtWork b 0 mode s.known s.bound f) (sym (board-with v e))
      (work-on (board v) (happens (board v) e) 0 mode s.known s.bound f is.work (Grows-happens (board v) e guard) out);
})

-- ---- the cube of a leaf that is held
pub leaf-cube : (v : Booked) (leaf : ℕ) (q : List Literal) → QueryStands v.task → IsJournalOf v.task v.journal →
    status_of (board v).nodes leaf ≡ status.Held 0 → q ≡ cube_of (board v).nodes leaf → IsCube v.task q
leaf-cube v leaf q run lawful held is =
    subst (IsCube v.task) (sym is) (subst (λ (t : Task). IsCube t (cube_of (board v).nodes leaf)) (board-task v)
    (cube-at (board v).task (board v).nodes leaf (leaf-within (board v).nodes leaf (ap is_leaf held)) (book-board v run lawful).cubes))

-- ---- the pool is no more than the budget
pub pool-fits : (v : Booked) → QueryStands v.task → IsJournalOf v.task v.journal → v.task.budget < 2 ^ 64 → (board v).pool < 2 ^ 64
pool-fits v run lawful fits =
    let is = book-board v run lawful in
    omega (arith, is.units, fits, ap (λ (t : Task). t.budget) (board-task v))
