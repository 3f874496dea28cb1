-- What a worker's seats know from one call to the next.
use Rattle.std.specs.Prelude.{◌≡◌, ◌⊎◌, ℕ, ◌^◌, ◌<◌, ◌≤◌, ◌==◌, Bool, true, List, [], ◌∷◌, ◌++◌, Some, slice_index_or, Option, None, Result, Ok, Err}
use Rattle.std.specs.List.{AllByRecursion}
use Rattle.std.specs.declared.alloc.AllocError.{AllocError}
use mathlib.Core.List.{IsPrefix}
use Rattle.asp_model.specs.declared.program.Program.{Program}
use Rattle.asp_model.specs.declared.results.Mode.{Mode}
use Rattle.asp_vars.specs.Literals.{Literal}
use Rattle.asp_vars.specs.Paid.{Units}
use Rattle.asp_vault.specs.Makers.{NoneBy}
use Rattle.asp_vault.specs.Moments.{Stays}
use Rattle.asp_vault.specs.Seats.{view, IsOf, IsBeside}
use Rattle.asp_path.specs.declared.status.Status.TheVariants as status
use Rattle.asp_path.specs.Trees.{nowhere, cube_of, status_of}
use Rattle.asp_core.specs.declared.event.Event.{Event}
use Rattle.asp_core.specs.declared.task.Task.{Task}
use Rattle.asp_core.specs.Units.{out_of}
use Rattle.asp_core.specs.Boards.{Board, IsQuery, goal_of, is_enough}
use Rattle.asp_core.specs.Events.{held_by, maker, replay}
use Rattle.asp_core.specs.Growth.{Grows, Spares}
use Rattle.asp_book.specs.Books.{signed, IsJournalOf}
use Rattle.asp_book.specs.Calls.{Knows, task_of, seen_board}
use Rattle.asp_book.specs.Fuels.{ComesBack}
use Rattle.asp_pool.specs.Pools.{IsOfPool}
use Rattle.asp_slots.specs.Shelves.{program_of, IsAt, ReadsOn}
use Rattle.asp_crew_laws.specs.Gone.{IsSmall, IsRelease}
use Rattle.asp_crew_laws.specs.Runs.{Quiet}
use Rattle.asp_crew_laws.specs.Working.{IsSeated}
use Rattle.asp_worker.specs.declared.find.Sight.{Sight}
use Rattle.asp_worker.specs.declared.find.Sight.TheVariants.{Nothing, Others, Taken}
use Rattle.asp_worker.specs.declared.worker.Worker.{Worker}
use Rattle.asp_worker.specs.declared.worker.Shared.{Shared}

-- The query's atoms stand in the program, and the units are no more than a word counts.
pub record IsRun (t : Task) : Type 0 where
  pub query : IsQuery t.program t.query
  pub budget : t.budget < 2 ^ 64

-- ---- who did what
-- It gives no leaf back, leases no more than 64 units, and gives no more back to the pool.
abbrev pub IsTidy : Event → Type 0
IsTidy e = IsSmall e × (IsRelease e → ⊥)

-- Each event of the seat's number that the seat has seen is so.
abbrev pub OwnAre : (Event → Type 0) → Knows → Type 0
OwnAre P v = AllByRecursion (λ e. maker e ≡ v.number → P e) v.seen

-- At some moment that the seat has seen the board was so.
pub record Was (P : Board → Type 0) (v : Knows) : Type 0 where
  pub before : List Event
  pub after : List Event
  pub is : v.seen ≡ before ++ after
  pub so : P (replay (task_of v) before)

-- no unit was left
abbrev pub WasEmpty : Knows → Type 0
WasEmpty v = Was (λ b. b.pool ≡ 0) v

-- as many answers as asked for were delivered
abbrev pub WasEnough : Knows → Type 0
WasEnough v = Was (λ b. is_enough b ≡ true) v

-- At some moment after it had seen `begun` no leaf was open, and the number has only given units back since then.
pub record IsQuietSince (begun : List Event) (v : Knows) : Type 0 where
  pub quiet : Quiet (task_of v) (λ k. k == v.number) v.seen
  pub late : IsPrefix begun quiet.before

-- From v to w the journal stays lawful, and the seat's number stays tidy.
pub record Behaves (v w : Knows) : Type 0 where
  pub journal : IsJournalOf (task_of w) w.seen
  pub tidy : OwnAre IsTidy v → OwnAre IsTidy w

-- ---- the seat at the book
-- It doesn't have the book, and has seen a lawful journal of a run.
pub record IsSettled (v : Knows) : Type 0 where
  pub seated : IsSeated (task_of v) v
  pub run : IsRun (task_of v)

-- From v to w the seat's number may have done something, but has its units still.
pub record Passes (v w : Knows) : Type 0 where
  pub stays : Stays v w
  pub lawful : Behaves v w
  pub grows : Grows (seen_board v) (seen_board w)
  pub units : out_of (seen_board w).out v.number ≡ out_of (seen_board v).out v.number

-- From v to w the seat's number left its leaves and its units alone.
pub record Idles (v w : Knows) : Type 0 where
  pub stays : Stays v w
  pub lawful : Behaves v w
  pub grows : Grows (seen_board v) (seen_board w)
  pub spares : Spares v.number (seen_board v) (seen_board w)

-- From v to w the seat's number may have leased units, and left its leaves alone.
pub record Leases (v w : Knows) : Type 0 where
  pub stays : Stays v w
  pub lawful : Behaves v w
  pub grows : Grows (seen_board v) (seen_board w)
  pub leaves : (leaf : ℕ) → status_of (seen_board v).nodes leaf ≡ status.Held v.number → slice_index_or (seen_board w).nodes leaf nowhere ≡ slice_index_or (seen_board v).nodes leaf nowhere

abbrev pub IsFree : Knows → Type 0
IsFree v = held_by v.number (seen_board v).nodes ≡ 0

abbrev pub Holds : Knows → ℕ → Type 0
Holds v leaf = status_of (seen_board v).nodes leaf ≡ status.Held v.number

-- what a seat was looking for: it holds the leaf that it took, and else none
abbrev pub Takes : Knows → Result (Option ℕ) AllocError → Type 0
Takes v (Ok None) = IsFree v
Takes v (Ok (Some leaf)) = Holds v leaf
Takes v (Err e) = IsFree v

-- what is known of a number that looked for a path and got none
abbrev pub IsQuietIf : List Event → Knows → Option ℕ → Type 0
IsQuietIf begun v None = IsQuietSince begun v
IsQuietIf begun v (Some leaf) = Unit {0}

-- what a worker without a path saw on the board: it holds the path that it took, and else none; or no path was open
abbrev pub Sees : List Event → Knows → Result Sight AllocError → Type 0
Sees begun v (Ok (Taken leaf)) = Holds v leaf
Sees begun v (Ok Nothing) = IsFree v × IsQuietSince begun v
Sees begun v (Ok Others) = IsFree v
Sees begun v (Err e) = IsFree v

-- After a split the number holds the half with the literal; without one it holds the leaf.
abbrev pub HoldsHalf : Knows → Knows → ℕ → Literal → Result (Option ℕ) AllocError → Type 0
HoldsHalf v w leaf l (Ok (Some half)) = Holds w half × (cube_of (seen_board w).nodes half ≡ cube_of (seen_board v).nodes leaf ++ l ∷ [])
HoldsHalf v w leaf l (Ok None) = slice_index_or (seen_board w).nodes leaf nowhere ≡ slice_index_or (seen_board v).nodes leaf nowhere
HoldsHalf v w leaf l (Err e) = Holds w leaf

-- The units are all that are out for the seat's number, and may come back. No more than 64 are left of them.
pub record Owes (v : Knows) (u : Units) : Type 0 where
  pub back : ComesBack (seen_board v) (out_of (seen_board v).out v.number) u
  pub few : u.left ≤ 64

-- The number has nothing: before its work, and after it.
pub record IsIdle (v : Knows) : Type 0 where
  pub settled : IsSettled v
  pub free : IsFree v
  pub home : out_of (seen_board v).out v.number ≡ 0

-- ---- the worker
-- The seat's board is for a run of this program.
pub record IsRunOf (p : Program) (m : Mode) (v : Knows) : Type 0 where
  pub program : (task_of v).program ≡ p
  pub goal : (n : Bool) × ((task_of v).goal ≡ goal_of m n)

-- The worker is one of those that share these.
pub record IsPlaced (c : Shared) (h : Worker) : Type 0 where
  pub book : IsOf c.book h.seat
  pub log : IsAt c.log h.pages
  -- The log is for the program of the run.
  pub program : program_of c.log ≡ (task_of (view h.seat)).program
  pub pool : IsOfPool c.pool h.pass
  pub settled : IsSettled (view h.seat)

-- It is, and its number was tidy.
pub record IsReady (c : Shared) (h : Worker) : Type 0 where
  pub book : IsOf c.book h.seat
  pub log : IsAt c.log h.pages
  -- The log is for the program of the run.
  pub program : program_of c.log ≡ (task_of (view h.seat)).program
  pub pool : IsOfPool c.pool h.pass
  pub settled : IsSettled (view h.seat)
  pub tidy : OwnAre IsTidy (view h.seat)

-- The worker has the seats that it had.
pub record Keeps (h k : Worker) : Type 0 where
  pub book : IsBeside h.seat k.seat
  pub seat : Stays (view h.seat) (view k.seat)
  pub pages : ReadsOn h.pages k.pages

-- ---- a whole work
-- The worker may begin: its seat has a number above 0, is of a run of this program, and the number has nothing and did nothing.
pub record MayWork (p : Program) (c : Shared) (h : Worker) : Type 0 where
  pub ready : IsPlaced c h
  pub number : 0 < (view h.seat).number
  pub run : IsRunOf p c.mode (view h.seat)
  pub idle : IsIdle (view h.seat)
  pub new : NoneBy signed (view h.seat).number (view h.seat).seen

-- No unit was left, as many answers as asked for were delivered, or somebody stopped the worker.
abbrev pub WasStopped : Type 0 → Knows → Type 0
WasStopped stopped v = WasEmpty v ⊎ (WasEnough v ⊎ stopped)

-- No leaf was open, and the number gave none back since it had seen `begun`.
pub record IsThroughSince (begun : List Event) (v : Knows) : Type 0 where
  pub quiet : IsQuietSince begun v
  pub tidy : OwnAre IsTidy v

-- why a number ended that began when it had seen `begun`: nothing was left to do, memory was wanting, or it was stopped
abbrev pub HasCause : Type 0 → Bool → List Event → Knows → Type 0
HasCause stopped short begun v = IsThroughSince begun v ⊎ ((short ≡ true) ⊎ WasStopped stopped v)

-- The worker has ended: it has the seats that it had, and the number has nothing. It took and gave back few units at a time, and had a
-- cause to end. `stopped` says that somebody stopped it.
pub record Worked (stopped : Type 0) (c : Shared) (h k : Worker) : Type 0 where
  pub keeps : Keeps h k
  pub ready : IsPlaced c k
  pub idle : IsIdle (view k.seat)
  pub small : OwnAre IsSmall (view k.seat)
  pub cause : HasCause stopped k.short (view h.seat).seen (view k.seat)
