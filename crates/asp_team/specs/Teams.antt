-- A team before its workers begin.
use Rattle.std.specs.Prelude.{◌≡◌, ℕ, suc, ◌<◌, ◌≤◌, Bool, List, [], ◌∷◌, ◌++◌, length, Some}
use Rattle.std.specs.List.{All, AllByRecursion}
use Rattle.asp_model.specs.declared.program.Program.{Program}
use Rattle.asp_model.specs.declared.results.Ask.{Ask}
use Rattle.asp_vault.specs.declared.view.View.{View}
use Rattle.asp_vault.specs.Makers.{NoneBy}
use Rattle.asp_vault.specs.Seats.{view}
use Rattle.asp_book.specs.Books.{signed}
use Rattle.asp_book.specs.Calls.{Knows, task_of}
use Rattle.asp_core.specs.declared.event.Event.{Event}
use Rattle.asp_core.specs.declared.task.Task.{Task}
use Rattle.asp_core.specs.Events.{maker}
use Rattle.asp_crew_laws.specs.Gone.{IsFork}
use Rattle.asp_crew_laws.specs.Runs as runs
use Rattle.asp_slots.specs.Shelves.{program_of, HasSplit}
use Rattle.asp_worker.specs.declared.worker.Worker.{Worker}
use Rattle.asp_worker.specs.declared.worker.Shared.{Shared}
use Rattle.asp_worker.specs.Seats.{IsIdle, IsRunOf}
use Rattle.asp_team.specs.declared.lead.Lead.{Lead}
use Rattle.asp_team.specs.declared.team.Team.{Team}
use Rattle.asp_team.specs.Joined.{IsLead, LeftBy, MayJoin}

-- Only numbers that were given to a seat did anything.
abbrev pub AreNew : Knows → Type 0
AreNew v = (n : ℕ) → v.splits < n → NoneBy signed n v.seen

-- Number 0 did these, and only split the root.
abbrev pub AreForks : List Event → Type 0
AreForks events = AllByRecursion (λ e. (maker e ≡ 0) × IsFork e) events

-- So many seats were split from the first, and none has come back.
pub record HasOut {D E : Type 0} (v : View D E) (n : ℕ) : Type 0 where
  pub splits : v.splits ≡ n
  pub joins : v.joins ≡ 0

-- Each seat that was split has come back.
abbrev pub IsAllBack : {D E : Type 0} → View D E → Type 0
IsAllBack v = v.splits ≡ v.joins

-- The first seat of a board for this task, whose number has nothing. No seat was split from it.
pub record IsBegun (t : Task) (v : Knows) : Type 0 where
  pub about : v.about ≡ Some t
  pub first : v.number ≡ 0
  pub idle : IsIdle v
  pub new : AreNew v
  pub out : HasOut v 0
  pub forks : AreForks v.seen

-- Workers' seats may be split from these, which are of a run in the mode of what is shared.
pub record IsHost (c : Shared) (l : Lead) : Type 0 where
  pub lead : IsLead c l
  pub idle : IsIdle (view l.seat)
  pub run : IsRunOf (task_of (view l.seat)).program c.mode (view l.seat)
  pub program : program_of c.log ≡ (task_of (view l.seat)).program
  pub new : AreNew (view l.seat)
  pub forks : AreForks (view l.seat).seen

-- The workers' numbers are i and those that follow.
abbrev pub AreNumbered : ℕ → List Worker → Type 0
AreNumbered i [] = Unit {0}
AreNumbered i (h ∷ hs) = ((view h.seat).number ≡ i) × AreNumbered (suc i) hs

-- These workers may begin, whose seats are all that are out. They have seen what the first seat has.
pub record AreReady (c : Shared) (l : Lead) (workers : List Worker) : Type 0 where
  pub out : HasOut (view l.seat) (length workers)
  pub pages_out : HasSplit l.pages (length workers)
  pub may : All (MayJoin (task_of (view l.seat)).program c (view l.seat).about) workers
  pub numbered : AreNumbered 1 workers
  pub began : All (λ h. (view h.seat).seen ≡ (view l.seat).seen) workers

-- ---- a whole team
pub record IsTeam (p : Program) (ask : Ask) (budget : ℕ) (t : Team) : Type 0 where
  pub lead : IsLead t.shared t.lead
  pub about : (view t.lead.seat).about ≡ Some (runs.task_of p ask budget)
  pub idle : IsIdle (view t.lead.seat)
  pub forks : AreForks (view t.lead.seat).seen
  pub ready : AreReady t.shared t.lead t.workers.items

-- What the workers left to the main thread, which has done nothing since they began and only split the root before. Then `begun` was
-- done, and each of them is gone.
pub record HaveLeft (l : Lead) (never : Bool) (begun : List Event) : Type 0 where
  pub rest : List Event
  pub seen : (view l.seat).seen ≡ begun ++ rest
  pub forks : AreForks begun
  pub since : NoneBy signed 0 rest
  pub gone : (n : ℕ) → 0 < n → n ≤ (view l.seat).splits → LeftBy (view l.seat) l.short never begun n
