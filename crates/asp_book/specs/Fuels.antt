-- The book's own fuel, and those that come back to it.
use Rattle.std.specs.Prelude.{◌≡◌, ℕ, ◌+◌, ◌≤◌, ◌==◌, true, not, List, count_by}
use Rattle.std.specs.Option.{IfSome, is_some}
use Rattle.asp_vars.specs.Paid.{Units}
use Rattle.asp_path.specs.Trees.{held_count}
use Rattle.asp_core.specs.Boards.{Board, IsBoundOf, known_count, sought}

-- The fuel is of the board's program. No conflict that it burnt a unit for knew more answers than were delivered, or used a
-- smaller bound than the search may have had; none was one of a search for consequences, unless these are sought.
pub record Fits (b : Board) (u : Units) : Type 0 where
  pub program : u.program ≡ b.task.program
  pub reasoned : u.reasoned ≡ true → is_some (sought b.task.goal) ≡ true
  pub known : u.known ≤ known_count b
  pub least : IfSome u.least (IsBoundOf b)

-- what a fuel that comes back to a book has
abbrev pub ComesBack : Board → ℕ → Units → Type 0
ComesBack b units u = Fits b u × (u.left + u.burnt ≡ units)

-- the book's own fuel: the pool is left, and the units burnt are burnt
pub record IsOwnFuel (b : Board) (u : Units) : Type 0 where
  pub fits : Fits b u
  pub left : u.left ≡ b.pool
  pub burnt : u.burnt ≡ b.burnt

-- ---- places kept in the journal
-- how many numbers have units out
abbrev pub lessees : List (ℕ × ℕ) → ℕ
lessees out = count_by (λ x. not (x.1 == 0)) out

-- one place for each held leaf, and one for each number with units out
abbrev pub places_of : Board → ℕ
places_of b = held_count b.nodes + lessees b.out
