-- What a call on a book replies, and what it adds to the journal by its reply.
use Rattle.std.specs.Prelude.{◌≡◌, ◌<◌, ◌↔◌, length, map, IsSome, IsTrue, option_map, Result, ℕ, ◌+◌, ◌==◌, Bool, true, false, if◌then◌else◌, List, [], ◌∷◌, Option, Some, None, ℤ}
use Rattle.std.specs.Option.{IfSome}
use Rattle.std.specs.Result.{IfOk}
use Rattle.std.specs.declared.alloc.AllocError.{AllocError}
use mathlib.Core.List.{IsPrefix}
use Rattle.asp_model.specs.Models.{atoms_of}
use Rattle.asp_model.specs.Costs.{cost, betters}
use Rattle.asp_model.specs.Sets.{Atoms}
use Rattle.asp_path.specs.Trees.{open_from, held_count}
use Rattle.asp_core.specs.Boards.{Board, is_answer, is_enough, is_excused, lists}
use Rattle.asp_core.specs.Events.{run}
use Rattle.asp_core.specs.declared.task.Task.{Task}
use Rattle.asp_rows.specs.Listed.{IsRowFor}
use Rattle.asp_book.specs.declared.listing.Listing.{Listing}
use Rattle.asp_vars.specs.Literals.{Literal}
use Rattle.asp_vars.specs.Paid.{Units}
use Rattle.asp_core.specs.declared.event.Event.{Event}
use Rattle.asp_core.specs.declared.event.Event.TheVariants as event

abbrev pub taken : ℕ → Option ℕ → List Event
taken by None = []
taken by (Some leaf) = event.Take by leaf ∷ []

abbrev pub taken_this : ℕ → ℕ → Bool → List Event
taken_this by leaf true = event.Take by leaf ∷ []
taken_this by leaf false = []

abbrev pub divided : ℕ → ℕ → Literal → Option (ℕ × ℕ) → List Event
divided by leaf l None = []
divided by leaf l (Some leaves) = event.Split by leaf l ∷ []

abbrev pub delivered : ℕ → Atoms → Bool → List Event
delivered by S true = event.Deliver by S ∷ []
delivered by S false = []

-- what is delivered of several answers, in their order
abbrev pub deliveries : ℕ → List Listing → List Event
deliveries by found = map (λ (x : Listing). event.Deliver by x.set) found

-- nothing where a best stood that the set doesn't better
abbrev pub improved : ℕ → Atoms → Option (List ℤ) → List Event
improved by S None = event.Improve by S ∷ []
improved by S (Some c) = []

-- nothing where no unit was left
abbrev pub leased_out : ℕ → Units → List Event
leased_out by u = if u.left == 0 then [] else event.Lease by u.left ∷ []

-- nothing where the number had no unit
abbrev pub given_back : ℕ → Units → List Event
given_back by u = if u.left + u.burnt == 0 then [] else event.Back by u.left u.burnt ∷ []

-- ---- several answers
-- The goal lists it, it is an answer, and the row is its own.
pub record IsListing (t : Task) (x : Listing) : Type 0 where
  pub listed : IsTrue (lists t x.set)
  pub answer : IsTrue (is_answer t x.set)
  pub row : IsRowFor (atoms_of t.program) x.set x.row

-- The front of the list was delivered: all of it where the reply is true. Where it is false, some are left, and it was enough.
pub record Lists (by : ℕ) (b : Board) (found : List Listing) (r : Result Bool AllocError) (front : List Listing) : Type 0 where
  pub begins : IsPrefix front found
  pub all : IfOk r (λ x. x ≡ true → front ≡ found)
  pub enough : IfOk r (λ x. x ≡ false → (length front < length found) × (is_enough (run b (deliveries by front)) ≡ true))

-- ---- replies of two facts
-- the leaves are the next two nodes, and there are none exactly where there is no room
pub record Divides (b : Board) (r : Option (ℕ × ℕ)) : Type 0 where
  pub leaves : IfSome r (λ leaves. leaves ≡ (length b.nodes, length b.nodes + 1))
  pub room : IsSome r ↔ (length b.nodes < 4194304)

-- Without a reply nothing excused the set. A reply is the best cost, which the set doesn't better.
pub record Improves (b : Board) (S : Atoms) (r : Option (List ℤ)) : Type 0 where
  pub better : r ≡ None → is_excused b S ≡ false
  pub best : IfSome r (λ c. (option_map (cost b.task.program) b.best ≡ Some c) × (betters (cost b.task.program S) c ≡ false))

-- Workers without a leaf want a split: no leaf is open, fewer are held than there are workers, and a leaf may split.
abbrev pub IsWanted : ℕ → Board → Type 0
IsWanted workers b = (length (open_from 0 b.nodes) ≡ 0) × (held_count b.nodes < workers) × (length b.nodes < 4194304)
