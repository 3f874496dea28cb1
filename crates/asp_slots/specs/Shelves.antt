-- What contracts say of a log of either kind, and of the seats at it.
use Rattle.std.specs.Prelude.{◌≡◌, ℕ, ◌+◌, ◌^◌, ◌<◌, ◌≤◌, Bool, true, false, All, List, [], ◌∷◌, Some, drop, length}
use Rattle.asp_model.specs.declared.program.Program.{Program}
use Rattle.asp_vars.specs.declared.nogood.Nogood.{Nogood}
use Rattle.asp_vault.specs.declared.view.View.{View}
use Rattle.asp_vault.specs.Moments.{Moment, Stays}
use Rattle.asp_vault.specs.Seats as vault
use Rattle.asp_log.specs.declared.scope.Scope.{Scope}
use Rattle.asp_log.specs.Entries.{IsEntry, IsLogOf, unsigned}
use Rattle.asp_slots.specs.declared.shelf.Shelf.{Shelf}
use Rattle.asp_slots.specs.declared.shelf.Shelf.TheVariants as kind
use Rattle.asp_slots.specs.declared.shelf.ShelfSeat.{ShelfSeat}
use Rattle.asp_slots.specs.declared.shelf.ShelfSeat.TheVariants as place
use Rattle.asp_slots.specs.declared.shown.Shown.{Shown}
use Rattle.asp_slots.specs.declared.shown.Shown.TheVariants as shown
use Rattle.asp_slots.specs.Rules.{SLOT_COUNT, Draws, seeing}
use Rattle.asp_slots.specs.Seats as row

-- ---- a log
-- whose entries it has
abbrev pub program_of : Shelf → Program
program_of (kind.Blocks b) = b.program.value
program_of (kind.Row r) = r.program.value

-- how many entries it may have
abbrev pub limit_of : Shelf → ℕ
limit_of (kind.Blocks b) = b.limit
limit_of (kind.Row r) = SLOT_COUNT

abbrev pub is_row : Shelf → Bool
is_row (kind.Blocks b) = false
is_row (kind.Row r) = true

-- ---- a seat
-- how many entries it has seen
abbrev pub seen_count : ShelfSeat → ℕ
seen_count (place.Blocks s) = length (vault.view s).seen
seen_count (place.Row s) = (row.view s).seen

-- The seat of a vault is of a log for this program, and doesn't have it.
pub record IsReader (p : Program) (limit : ℕ) (v : View Scope Nogood) : Type 0 where
  pub about : v.about ≡ Some (record { program = p; limit = limit })
  pub rests : v.holds ≡ false

-- the seat is of this log
abbrev pub IsAt : Shelf → ShelfSeat → Type 0
IsAt (kind.Blocks b) (place.Blocks s) = vault.IsOf b.vault s × IsReader b.program.value b.limit (vault.view s)
IsAt (kind.Row r) (place.Row s) = row.IsOf r s
IsAt _ _ = ⊥

-- Both seats are of one log. The second has forgotten nothing, and nothing was split from the first or joined to it.
abbrev pub ReadsOn : ShelfSeat → ShelfSeat → Type 0
ReadsOn (place.Blocks s) (place.Blocks t) = vault.IsBeside s t × Stays (vault.view s) (vault.view t)
ReadsOn (place.Row s) (place.Row t) = row.IsBeside s t × ((row.view s).seen ≤ (row.view t).seen)
ReadsOn _ _ = ⊥

-- ---- seats that are split and joined: of a vault they are counted
-- it is the seat that was made with the log
abbrev pub IsFirst : ShelfSeat → Type 0
IsFirst (place.Blocks s) = (vault.view s).number ≡ 0
IsFirst (place.Row s) = Unit {0}

-- another can be split from it
abbrev pub HasRoom : ShelfSeat → Type 0
HasRoom (place.Blocks s) = (vault.view s).splits + 1 < 2 ^ 32
HasRoom (place.Row s) = Unit {0}

-- So many seats were split from it, and none has come back.
abbrev pub HasSplit : ShelfSeat → ℕ → Type 0
HasSplit (place.Blocks s) n = ((vault.view s).splits ≡ n) × ((vault.view s).joins ≡ 0)
HasSplit (place.Row s) n = Unit {0}

-- From s to t so many seats have come back.
abbrev pub TakesBack : ShelfSeat → ShelfSeat → ℕ → Type 0
TakesBack (place.Blocks s) (place.Blocks t) n = ((vault.view t).splits ≡ (vault.view s).splits) × ((vault.view t).joins ≡ (vault.view s).joins + n)
TakesBack (place.Row s) (place.Row t) n = Unit {0}
TakesBack _ _ n = ⊥

-- Each seat that was split from it has come back.
abbrev pub HasAllBack : ShelfSeat → Type 0
HasAllBack (place.Blocks s) = (vault.view s).splits ≡ (vault.view s).joins
HasAllBack (place.Row s) = Unit {0}

-- ---- what is added
-- From s to t the nogood was added: to blocks at the end, and to a row under a number that the seat hadn't drawn before.
abbrev pub Adds : ShelfSeat → ShelfSeat → Nogood → Type 0
Adds (place.Blocks s) (place.Blocks t) n = (before : List Nogood) × Moment unsigned (IsLogOf (vault.view s).about) (vault.view s) (vault.view t) before (n ∷ [])
Adds (place.Row s) (place.Row t) n = Draws (row.view s) (row.view t)
Adds _ _ n = ⊥

-- From s to t nothing was added: to blocks, for want of room or of memory; to a row, since all its numbers were drawn.
abbrev pub Refuses : ShelfSeat → ShelfSeat → Type 0
Refuses (place.Blocks s) (place.Blocks t) = (before : List Nogood) × Moment unsigned (IsLogOf (vault.view s).about) (vault.view s) (vault.view t) before []
Refuses (place.Row s) (place.Row t) = row.view t ≡ seeing SLOT_COUNT (row.view s)
Refuses _ _ = ⊥

-- ---- what is read
abbrev pub listed : Shown → List Nogood
listed (shown.Blocks v) = v
listed (shown.Row v) = v.items

-- Of blocks these are exactly those that the seat has seen from a position on. Which entry a row has under which number isn't said.
abbrev pub IsExact : ShelfSeat → ℕ → List Nogood → Type 0
IsExact (place.Blocks s) from entries = entries ≡ drop from (vault.view s).seen
IsExact (place.Row s) from entries = Unit {0}

-- The entries from a position on, as the seat has seen them: so many, each of use to every search of the program.
pub record AreRead (p : Program) (s : ShelfSeat) (from : ℕ) (entries : List Nogood) : Type 0 where
  pub count : from + length entries ≡ seen_count s
  pub good : All (IsEntry p) entries
  pub exact : IsExact s from entries
