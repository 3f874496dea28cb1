-- What holds of a seat at a log of either kind.
use Rattle.std.proofs.Common.{◌≡◌, ℕ, ◌+◌, ◌<◌, ◌≤◌, false, List, [], length, drop, refl, sym, ap, ◌∙◌, arith}
use Rattle.std.proofs.lemmas.List.{append-nil}
use Rattle.std.proofs.lemmas.List.Elements.{All-nil}
use Rattle.asp_model.specs.declared.program.Program.{Program}
use Rattle.asp_vault.specs.declared.view.View.{View}
use Rattle.asp_vault.specs.Moments.{Stays}
use Rattle.asp_vault.specs.Seats.{view}
use Rattle.asp_vault.proofs.Filters.{drop_prefix}
use Rattle.asp_vault.proofs.Prefixes.{prefix_self, prefix_trans, prefix_length}
use Rattle.asp_log.specs.Entries.{IsEntry}
use Rattle.asp_slots.specs.declared.shelf.Shelf.{Shelf}
use Rattle.asp_slots.specs.declared.shelf.Shelf.TheVariants as kind
use Rattle.asp_slots.specs.declared.shelf.ShelfSeat.{ShelfSeat}
use Rattle.asp_slots.specs.declared.shelf.ShelfSeat.TheVariants.{Blocks, Row}
use Rattle.asp_slots.specs.Shelves.{seen_count, IsAt, ReadsOn, HasRoom, HasSplit, TakesBack, HasAllBack, IsExact, AreRead}

-- ---- a seat of a vault
pub stays-self : {D E : Type 0} (v : View D E) → v.holds ≡ false → Stays v v
stays-self v rests = record { rests = rests; about = refl; number = refl; splits = refl; joins = refl; guests = refl; seen = prefix_self v.seen }

pub stays-trans : {D E : Type 0} (u v w : View D E) → Stays u v → Stays v w → Stays u w
stays-trans u v w s t = record {
  rests = t.rests;
  about = t.about ∙ s.about;
  number = t.number ∙ s.number;
  splits = t.splits ∙ s.splits;
  joins = t.joins ∙ s.joins;
  guests = t.guests ∙ s.guests;
  seen = prefix_trans u.seen v.seen w.seen s.seen t.seen;
}

-- ---- from one call to the next
pub reads-self : (c : Shelf) (s : ShelfSeat) → IsAt c s → ReadsOn s s
reads-self (kind.Blocks b) (Blocks s) at = (refl, stays-self (view s) at.1.rests)
reads-self (kind.Blocks b) (Row s) at = absurd at
reads-self (kind.Row r) (Blocks s) at = absurd at
reads-self (kind.Row r) (Row s) at = (refl, omega arith)

pub reads-trans : (s t u : ShelfSeat) → ReadsOn s t → ReadsOn t u → ReadsOn s u
reads-trans (Blocks s) (Blocks t) (Blocks u) p q = (q.0 ∙ p.0, stays-trans (view s) (view t) (view u) p.1 q.1)
reads-trans (Blocks s) (Blocks t) (Row u) p q = absurd q
reads-trans (Blocks s) (Row t) u p q = absurd p
reads-trans (Row s) (Blocks t) u p q = absurd p
reads-trans (Row s) (Row t) (Blocks u) p q = absurd q
reads-trans (Row s) (Row t) (Row u) p q = (q.0 ∙ p.0, omega (arith, p.1, q.1))

-- the seat is still of the log
pub at-on : (c : Shelf) (s t : ShelfSeat) → IsAt c s → ReadsOn s t → IsAt c t
at-on (kind.Blocks b) (Blocks s) (Blocks t) at p = (p.0 ∙ at.0, record { about = p.1.about ∙ at.1.about; rests = p.1.rests })
at-on (kind.Blocks b) (Blocks s) (Row t) at p = absurd p
at-on (kind.Blocks b) (Row s) t at p = absurd at
at-on (kind.Row r) (Blocks s) t at p = absurd at
at-on (kind.Row r) (Row s) (Blocks t) at p = absurd p
at-on (kind.Row r) (Row s) (Row t) at p = p.0 ∙ at

pub seen-on : (s t : ShelfSeat) → ReadsOn s t → seen_count s ≤ seen_count t
seen-on (Blocks s) (Blocks t) p = prefix_length (view s).seen (view t).seen p.1.seen
seen-on (Blocks s) (Row t) p = absurd p
seen-on (Row s) (Blocks t) p = absurd p
seen-on (Row s) (Row t) p = p.1

-- a position that the seat had seen
pub still-seen : (n : ℕ) (s t : ShelfSeat) → ReadsOn s t → n ≤ seen_count s → n ≤ seen_count t
still-seen n s t p le = omega (arith, le, seen-on s t p)

-- ---- nothing was there to be read
drop-whole : {X : Type 0} (n : ℕ) (xs : List X) → n ≡ length xs → [] ≡ drop n xs
drop-whole n xs e = sym (ap (λ k. drop k xs) e ∙ ap (drop (length xs)) (sym (append-nil xs)) ∙ drop_prefix xs [])

none-exact : (s : ShelfSeat) (n : ℕ) → n ≡ seen_count s → IsExact s n []
none-exact (Blocks s) n e = drop-whole n (view s).seen e
none-exact (Row s) n e = tt

pub none-read : (p : Program) (s : ShelfSeat) (n : ℕ) → n ≡ seen_count s → AreRead p s n []
none-read p s n e = record { count = omega (arith, e); good = All-nil (IsEntry p); exact = none-exact s n e }

-- ---- seats that are split and joined
pub back-self : (s : ShelfSeat) → TakesBack s s 0
back-self (Blocks s) = (refl, omega arith)
back-self (Row s) = tt

pub back-more : (s t u : ShelfSeat) (n : ℕ) → TakesBack s t n → TakesBack t u 1 → TakesBack s u (n + 1)
back-more (Blocks s) (Blocks t) (Blocks u) n p q = (q.0 ∙ p.0, omega (arith, p.1, q.1))
back-more (Blocks s) (Blocks t) (Row u) n p q = absurd q
back-more (Blocks s) (Row t) u n p q = absurd p
back-more (Row s) (Blocks t) u n p q = absurd p
back-more (Row s) (Row t) (Blocks u) n p q = absurd q
back-more (Row s) (Row t) (Row u) n p q = tt

pub back-all : (s t : ShelfSeat) (n : ℕ) → HasSplit s n → TakesBack s t n → HasAllBack t
back-all (Blocks s) (Blocks t) n out p = omega (arith, out.0, out.1, p.0, p.1)
back-all (Blocks s) (Row t) n out p = absurd p
back-all (Row s) (Blocks t) n out p = absurd p
back-all (Row s) (Row t) n out p = tt

-- another can be split from one of which few were
pub room-left : (s : ShelfSeat) (n : ℕ) → HasSplit s n → n < 64 → HasRoom s
room-left (Blocks s) n out few = omega (arith, out.0, few)
room-left (Row s) n out few = tt
