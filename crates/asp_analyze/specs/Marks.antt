-- Marks by variable.
use Rattle.std.specs.Prelude.{◌≡◌, ℕ, ◌+◌, ◌<◌, ◌≤◌, Bool, true, false, not, ◌||◌, if◌then◌else◌, List, [], length, count_by, replicate, slice_index_or, IsTrue}
use Rattle.std.specs.List.{All}
use Rattle.asp_vars.specs.Literals.{Literal, has_literal}
use Rattle.asp_analyze.specs.declared.marks.Mark.{Mark}
use Rattle.asp_analyze.specs.declared.marks.Mark.TheVariants as mark

-- each variable's mark, and the literals of those that have one
pub record Marked : Type 0 where
  pub marks : List Mark
  pub lits : List Literal

abbrev pub mark_of : List Mark → ℕ → Mark
mark_of marks v = slice_index_or marks v mark.Clean

abbrev pub is_clean : Mark → Bool
is_clean mark.Clean = true
is_clean mark.Pending = false
is_clean mark.Zero = false
is_clean mark.Kept = false
is_clean mark.Resolved = false
is_clean mark.Needed = false

abbrev pub is_pending : Mark → Bool
is_pending mark.Clean = false
is_pending mark.Pending = true
is_pending mark.Zero = false
is_pending mark.Kept = false
is_pending mark.Resolved = false
is_pending mark.Needed = false

abbrev pub is_zero : Mark → Bool
is_zero mark.Clean = false
is_zero mark.Pending = false
is_zero mark.Zero = true
is_zero mark.Kept = false
is_zero mark.Resolved = false
is_zero mark.Needed = false

abbrev pub is_resolved : Mark → Bool
is_resolved mark.Clean = false
is_resolved mark.Pending = false
is_resolved mark.Zero = false
is_resolved mark.Kept = false
is_resolved mark.Resolved = true
is_resolved mark.Needed = false

-- It was met, and wasn't resolved.
abbrev pub is_open : Mark → Bool
is_open mark.Clean = false
is_open mark.Pending = true
is_open mark.Zero = true
is_open mark.Kept = true
is_open mark.Resolved = false
is_open mark.Needed = false

abbrev pub is_met : Mark → Bool
is_met m = is_open m || is_resolved m

-- It has a mark, and not Zero.
abbrev pub is_settled : Mark → Bool
is_settled m = not (is_clean m || is_zero m)

abbrev pub ones : Mark → ℕ
ones m = if is_pending m then 1 else 0

-- no marks
abbrev pub unmarked : ℕ → Marked
unmarked n = record { marks = replicate n mark.Clean; lits = [] }

-- Each marked variable is listed once, and the pending ones are counted.
pub record AreMarks (marks : List Mark) (lits : List Literal) (pending room : ℕ) : Type 0 where
  pub counted : length lits + count_by is_clean marks ≡ length marks
  pub waiting : pending ≡ count_by is_pending marks
  pub roomy : length marks ≤ room
  pub listed : (v : ℕ) → is_clean (mark_of marks v) ≡ false → (l : Literal) × IsTrue (has_literal lits l) × (l.var ≡ v)
  pub small : All (λ l. l.var < length marks) lits

-- The variables of these literals have no mark, and the others have theirs.
pub record Cleaned (old new : List Mark) (lits : List Literal) : Type 0 where
  pub gone : All (λ l. is_clean (mark_of new l.var) ≡ true) lits
  pub others : (v : ℕ) → is_clean (mark_of old v) ≡ true → is_clean (mark_of new v) ≡ true
