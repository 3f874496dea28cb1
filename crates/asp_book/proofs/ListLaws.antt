-- A book after several answers were delivered.
use Rattle.std.proofs.Common.{◌≡◌, ℕ, ◌+◌, ◌<◌, Bool, true, false, not, List, [], ◌∷◌, ◌++◌, length, Ok, refl, sym, ap, ◌∙◌, subst, arith}
use Rattle.std.specs.List.{AllByRecursion}
use Rattle.std.proofs.lemmas.Bool.{false≢true}
use Rattle.std.proofs.lemmas.List.{length-append}
use Rattle.asp_vault.specs.Makers.{OnlyBy}
use Rattle.asp_core.specs.declared.event.Event.{Event}
use Rattle.asp_core.specs.declared.event.Event.TheVariants as event
use Rattle.asp_core.specs.declared.task.Task.{Task}
use Rattle.asp_core.specs.Boards.{Board, start, is_enough}
use Rattle.asp_core.specs.Events.{run, replay}
use Rattle.asp_core.proofs.ResultLaws.{task-run}
use Rattle.asp_book.specs.declared.listing.Listing.{Listing}
use Rattle.asp_book.specs.Books.{Booked, board, with_events, signed}
use Rattle.asp_book.specs.Replies.{IsListing, Lists, delivered, deliveries}
use Rattle.asp_book.proofs.CallLaws.{run-append, task-with, journal-with}

-- the board stays for its task
pub task-listed : (b c : Booked) (events : List Event) → c ≡ with_events b events → (board c).task ≡ (board b).task
task-listed b c events is = task-run (start c.task) c.journal ∙ ap (λ (x : Booked). x.task) is ∙ task-with b events ∙ sym (task-run (start b.task) b.journal)

pub board-listed : (b c : Booked) (events : List Event) → c ≡ with_events b events → board c ≡ run (board b) events
board-listed b c events is =
    ap board is ∙ ap (λ (t : Task). replay t (with_events b events).journal) (task-with b events) ∙ ap (replay b.task) (journal-with b events) ∙ run-append (start b.task) b.journal events

pub full : (b r : Bool) → r ≡ not b → r ≡ false → b ≡ true
full true r is e = refl
full false r is e = absurd (false≢true (sym e ∙ is))

-- none more was, since it was enough
pub listed-less : (c d : Booked) (by : ℕ) (x : Listing) (r : Bool) → r ≡ false → d ≡ with_events c (delivered by x.set r) → d ≡ c
listed-less c d by x true e now = absurd (false≢true (sym e))
listed-less c d by x false e now = now

-- ---- one of the list
pub at-middle : (P : Listing → Type 0) (xs : List Listing) (x : Listing) (ys : List Listing) → AllByRecursion P (xs ++ x ∷ ys) → P x
at-middle P [] x ys h = h.0
at-middle P (y ∷ xs) x ys h = at-middle P xs x ys h.1

pub listing-next : (t : Task) (found xs : List Listing) (x : Listing) (ys : List Listing) → found ≡ xs ++ x ∷ ys → AllByRecursion (IsListing t) found → IsListing t x
listing-next t found xs x ys is all = at-middle (IsListing t) xs x ys (subst (AllByRecursion (IsListing t)) is all)

less-front : (xs : List Listing) (x : Listing) (ys : List Listing) → length xs < length (xs ++ x ∷ ys)
less-front xs x ys = omega (arith, length-append xs (x ∷ ys))

-- ---- what the reply says
pub lists-enough : (by : ℕ) (b : Board) (found front : List Listing) (x : Listing) (ys : List Listing) → found ≡ front ++ x ∷ ys →
    is_enough (run b (deliveries by front)) ≡ true → Lists by b found (Ok false) front
lists-enough by b found front x ys is enough = record {
  begins = (x ∷ ys, sym is);
  all = λ e. absurd (false≢true e);
  enough = λ e. (subst (λ (l : List Listing). length front < length l) (sym is) (less-front front x ys), enough);
}

-- ---- whose events these are
pub deliveries-by : (k : ℕ) (found : List Listing) → OnlyBy signed k (deliveries k found)
deliveries-by k [] = tt
deliveries-by k (x ∷ found) = (refl, deliveries-by k found)
