-- What a number that has ended leaves in a list of events.
use Rattle.std.specs.Prelude.{◌≡◌, ◌⊎◌, ℕ, ◌<◌, ◌≤◌, ◌==◌, Bool, true, List, ◌++◌}
use Rattle.std.specs.List.{AllByRecursion}
use Rattle.asp_core.specs.declared.event.Event.{Event}
use Rattle.asp_core.specs.declared.event.Event.TheVariants as event
use Rattle.asp_core.specs.declared.task.Task.{Task}
use Rattle.asp_core.specs.Units.{out_of}
use Rattle.asp_core.specs.Boards.{Board, start, is_enough}
use Rattle.asp_core.specs.Events.{held_by, maker, IsLawful, replay}
use Rattle.asp_crew_laws.specs.Runs.{Quiet}

-- It leases no more than 64 units, and gives no more than 64 back to the pool.
abbrev pub IsSmall : Event → Type 0
IsSmall (event.Lease s n) = n ≤ 64
IsSmall (event.Back s left burnt) = left ≤ 64
IsSmall (event.Take s leaf) = Unit {0}
IsSmall (event.Split s leaf l) = Unit {0}
IsSmall (event.Deliver s S) = Unit {0}
IsSmall (event.Improve s S) = Unit {0}
IsSmall (event.Close s leaf n) = Unit {0}
IsSmall (event.Release s leaf) = Unit {0}

-- At some moment of the journal the board was so.
pub record Was (P : Board → Type 0) (t : Task) (journal : List Event) : Type 0 where
  pub before : List Event
  pub after : List Event
  pub is : journal ≡ before ++ after
  pub so : P (replay t before)

abbrev pub IsEmpty : Board → Type 0
IsEmpty b = b.pool ≡ 0

abbrev pub IsEnough : Board → Type 0
IsEnough b = is_enough b ≡ true

-- what the main thread does before the workers begin: it splits the root
abbrev pub IsFork : Event → Type 0
IsFork (event.Take s leaf) = Unit {0}
IsFork (event.Split s leaf l) = Unit {0}
IsFork (event.Release s leaf) = Unit {0}
IsFork (event.Deliver s S) = ⊥
IsFork (event.Improve s S) = ⊥
IsFork (event.Close s leaf n) = ⊥
IsFork (event.Lease s n) = ⊥
IsFork (event.Back s left burnt) = ⊥

-- The board was so when the main thread hadn't done more than that.
pub record WasEarly (P : Board → Type 0) (t : Task) (journal : List Event) : Type 0 where
  pub before : List Event
  pub after : List Event
  pub is : journal ≡ before ++ after
  pub so : P (replay t before)
  pub early : AllByRecursion (λ e. maker e ≡ 0 → IsFork e) before

abbrev pub IsRelease : Event → Type 0
IsRelease (event.Release s leaf) = Unit {0}
IsRelease (event.Take s leaf) = ⊥
IsRelease (event.Split s leaf l) = ⊥
IsRelease (event.Deliver s S) = ⊥
IsRelease (event.Improve s S) = ⊥
IsRelease (event.Close s leaf n) = ⊥
IsRelease (event.Lease s n) = ⊥
IsRelease (event.Back s left burnt) = ⊥

-- The number, which began when this was done, gave no leaf back, and ended where no leaf was open.
pub record IsThrough (t : Task) (n : ℕ) (begun journal : List Event) : Type 0 where
  pub quiet : Quiet t (λ k. k == n) journal
  pub late : (mid : List Event) × (quiet.before ≡ begun ++ mid)
  pub kept : AllByRecursion (λ e. maker e ≡ n → IsRelease e → ⊥) journal

-- Memory or units were wanting, as many answers as asked for were delivered, or nobody says that none is ever stopped.
abbrev pub IsCut : Task → Bool → Bool → List Event → Type 0
IsCut t short never journal = (short ≡ true) ⊎ (Was IsEmpty t journal ⊎ (Was IsEnough t journal ⊎ (never ≡ true → ⊥)))

-- The same, before the main thread went on.
abbrev pub IsCutShort : Task → Bool → Bool → List Event → Type 0
IsCutShort t short never journal = (short ≡ true) ⊎ (WasEarly IsEmpty t journal ⊎ (WasEarly IsEnough t journal ⊎ (never ≡ true → ⊥)))

-- The number holds no leaf and no units. It ended where no leaf was open, or it was cut.
pub record IsGone (t : Task) (short never : Bool) (n : ℕ) (begun journal : List Event) : Type 0 where
  pub free : held_by n (replay t journal).nodes ≡ 0
  pub home : out_of (replay t journal).out n ≡ 0
  pub leases : AllByRecursion (λ e. maker e ≡ n → IsSmall e) journal
  pub why : IsThrough t n begun journal ⊎ IsCut t short never journal

-- ---- the whole run
-- Numbers 1 to `workers` are gone. Number 0 holds no leaf and no units; it has done nothing since the workers began, and no more than
-- split the root before. No other number did anything.
pub record IsCrewGone (t : Task) (workers : ℕ) (short never : Bool) (begun rest : List Event) : Type 0 where
  pub lawful : IsLawful (start t) (begun ++ rest)
  pub gone : (n : ℕ) → 0 < n → n ≤ workers → IsGone t short never n begun (begun ++ rest)
  pub free : held_by 0 (replay t (begun ++ rest)).nodes ≡ 0
  pub home : out_of (replay t (begun ++ rest)).out 0 ≡ 0
  pub few : AllByRecursion (λ e. maker e ≤ workers) (begun ++ rest)
  pub forks : AllByRecursion (λ e. (maker e ≡ 0) × IsFork e) begun
  pub since : AllByRecursion (λ e. maker e ≡ 0 → ⊥) rest

-- What the workers were to do: the main thread closed a leaf, or another number gave one back.
abbrev pub IsUnshared : Event → Type 0
IsUnshared (event.Close s leaf n) = s ≡ 0
IsUnshared (event.Release s leaf) = s ≡ 0 → ⊥
IsUnshared (event.Take s leaf) = ⊥
IsUnshared (event.Split s leaf l) = ⊥
IsUnshared (event.Deliver s S) = ⊥
IsUnshared (event.Improve s S) = ⊥
IsUnshared (event.Lease s n) = ⊥
IsUnshared (event.Back s left burnt) = ⊥

-- No number but 0 leases more than 64 units, or gives more back; and the workers did all of the work, unless they were cut short.
pub record IsShared (t : Task) (short never : Bool) (journal : List Event) : Type 0 where
  pub leases : AllByRecursion (λ e. (maker e ≡ 0 → ⊥) → IsSmall e) journal
  pub causes : AllByRecursion (λ e. IsUnshared e → IsCutShort t short never journal) journal
