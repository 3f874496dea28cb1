-- What holds on the way of an analysis.
use Rattle.std.specs.Prelude.{◌≡◌, ◌≢◌, ◌⊎◌, ℕ, ◌==◌, ◌<◌, ◌≤◌, true, false, if◌then◌else◌, List, ◌++◌, length, take, filter, Option, Some, None, IsTrue}
use Rattle.std.specs.List.{All}
use Rattle.asp_vars.specs.Literals.{Literal, complement, has_literal, literal_eq}
use Rattle.asp_vars.specs.declared.nogood.Nogood.{Nogood}
use Rattle.asp_vars.specs.declared.nogood.Base.{Base}
use Rattle.asp_trail.specs.declared.trail.Entry.{Entry}
use Rattle.asp_trail.specs.Entries.{level_in, reason_in}
use Rattle.asp_trail.specs.Reasons.{Stands}
use Rattle.asp_trail.specs.Trails.{IsOrdered}
use Rattle.asp_analyze.specs.declared.marks.Mark.{Mark}
use Rattle.asp_analyze.specs.declared.marks.Mark.TheVariants as mark
use Rattle.asp_analyze.specs.Marks.{Marked, mark_of, is_clean, is_open, is_met, is_settled}
use Rattle.asp_analyze.specs.Learning.{Used, IsUsed, IsNamed, is_resolved, is_from, base_after}

-- The literal is an entry's.
pub record IsOn (entries : List Entry) (l : Literal) : Type 0 where
  pub place : ℕ
  pub stands : Stands entries l place (level_in entries l.var)

-- The variables of the entries are n at most.
abbrev pub AreUpTo : ℕ → List Entry → Type 0
AreUpTo n entries = All (λ e. e.lit.var ≤ n) entries

-- The mark of a literal of this level that is met.
abbrev pub mark_at : ℕ → ℕ → Mark
mark_at level top = if level == 0 then mark.Zero else if level == top then mark.Pending else mark.Kept

-- the level of a literal, 0 for the one that is left out
unfoldable pub level_unless : List Entry → Literal → Literal → ℕ
level_unless entries out l = if literal_eq l out then 0 else level_in entries l.var

pub record CanStay (entries : List Entry) (top : ℕ) (l : Literal) : Type 0 where
  pub on : IsOn entries l
  pub level : level_in entries l.var ≤ top

-- what a mark says of a variable's level and reason
abbrev pub Fits : ℕ → ℕ → Option ℕ → Mark → Type 0
Fits top level reason mark.Clean = Unit {0}
Fits top level reason mark.Pending = (0 < top) × (level ≡ top)
Fits top level reason mark.Zero = level ≡ 0
Fits top level reason mark.Kept = (level ≡ 0 → reason ≡ None) × (0 < level → level < top)
Fits top level reason mark.Resolved = Unit {0}
Fits top level reason mark.Needed = (0 < level) × (level < top)

-- The marked literals are entries', and their marks fit.
pub record AreMarked (entries : List Entry) (top : ℕ) (m : Marked) : Type 0 where
  pub ordered : (vars : ℕ) × IsOrdered vars entries
  pub within : (l : Literal) → IsTrue (has_literal m.lits l) → IsOn entries l × (is_clean (mark_of m.marks l.var) ≡ false)
  pub listed : (l : Literal) → IsOn entries l → is_clean (mark_of m.marks l.var) ≡ false → IsTrue (has_literal m.lits l)
  pub named : (v : ℕ) → is_clean (mark_of m.marks v) ≡ false → (l : Literal) × IsOn entries l × (l.var ≡ v)
  pub fits : (l : Literal) → IsOn entries l → Fits top (level_in entries l.var) (reason_in entries l.var) (mark_of m.marks l.var)
  pub small : (l : Literal) → IsOn entries l → l.var < length m.marks

-- It is a literal that was met now.
pub record Came (entries : List Entry) (lits : List Literal) (m : Mark) (v : ℕ) : Type 0 where
  pub lit : Literal
  pub has : IsTrue (has_literal lits lit)
  pub var : lit.var ≡ v
  pub on : IsOn entries lit
  pub open_now : is_open m ≡ true

-- These literals were met, and else nothing happened.
pub record Noted (entries : List Entry) (old new : Marked) (lits : List Literal) : Type 0 where
  pub met : (l : Literal) → IsTrue (has_literal lits l) → is_met (mark_of new.marks l.var) ≡ true
  pub stays : (v : ℕ) → is_met (mark_of old.marks v) ≡ true → mark_of new.marks v ≡ mark_of old.marks v
  pub changed : (v : ℕ) → (mark_of new.marks v ≡ mark_of old.marks v) ⊎ Came entries lits (mark_of new.marks v) v
  pub grown : (rest : List Literal) × (new.lits ≡ old.lits ++ rest)
  pub sized : length new.marks ≡ length old.marks

-- It stands before the other one.
pub record IsBefore (entries : List Entry) (l lit : Literal) : Type 0 where
  pub on : IsOn entries l
  pub level : level_in entries l.var ≤ level_in entries lit.var
  pub before : (i b : ℕ) → Stands entries lit i b → on.place < i

-- A literal was resolved with its reason, whose literals were met.
pub record Opened (entries : List Entry) (lit : Literal) (old new : Marked) : Type 0 where
  pub gone : mark_of new.marks lit.var ≡ mark.Resolved
  pub stays : (v : ℕ) → v ≢ lit.var → is_met (mark_of old.marks v) ≡ true → mark_of new.marks v ≡ mark_of old.marks v
  pub changed : (l : Literal) → IsOn entries l → l.var ≢ lit.var →
      (mark_of new.marks l.var ≡ mark_of old.marks l.var) ⊎ (IsBefore entries l lit × (is_open (mark_of new.marks l.var) ≡ true))
  pub grown : (rest : List Literal) × (new.lits ≡ old.lits ++ rest)

-- Each literal of the nogood, and of the reasons used but for what they implied, was met; each that was resolved was so by a reason
-- used; and each that is left is from the nogood or from a reason used.
pub record Covers (entries : List Entry) (says : Literal → ℕ → Nogood → Type 0) (from : Nogood) (marks : List Mark) (used : List Used) : Type 0 where
  pub reasons : All (IsUsed entries) used
  pub named : All (IsNamed says entries) used
  pub given : (l : Literal) → IsTrue (has_literal from.lits l) → is_met (mark_of marks l.var) ≡ true
  pub others : All (λ u. (l : Literal) → IsTrue (has_literal u.nogood.lits l) → l ≢ complement u.lit → is_met (mark_of marks l.var) ≡ true) used
  pub resolved : (l : Literal) → IsOn entries l → mark_of marks l.var ≡ mark.Resolved → IsTrue (is_resolved used l)
  pub known : (l : Literal) → IsOn entries l → is_open (mark_of marks l.var) ≡ true → IsTrue (is_from from used l)

pub record IsOnTheWay (entries : List Entry) (says : Literal → ℕ → Nogood → Type 0) (from : Nogood) (top : ℕ) (m : Marked) (b : Base) : Type 0 where
  pub marked : AreMarked entries top m
  pub reached : (used : List Used) × Covers entries says from m.marks used × (b ≡ base_after from.base used)

-- No entry from i on is pending, and one before is.
pub record IsDown (entries : List Entry) (i : ℕ) (marks : List Mark) : Type 0 where
  pub above : (l : Literal) (j b : ℕ) → Stands entries l j b → i ≤ j → mark_of marks l.var ≢ mark.Pending
  pub some : (l : Literal) × IsOn entries l × (mark_of marks l.var ≡ mark.Pending)

-- It is the only pending literal.
pub record IsPoint (entries : List Entry) (marks : List Mark) (point : Literal) : Type 0 where
  pub on : IsOn entries point
  pub pending : mark_of marks point.var ≡ mark.Pending
  pub only : (l : Literal) → IsOn entries l → mark_of marks l.var ≡ mark.Pending → l ≡ point

-- The literal is of the nogood, which has no other of its level, the greatest of those from which it was learnt.
pub record IsTop (entries : List Entry) (from n : List Literal) (point : Literal) : Type 0 where
  pub has : IsTrue (has_literal n point)
  pub low : 0 < level_in entries point.var
  pub others : (l : Literal) → IsTrue (has_literal n l) → l ≢ point → level_in entries l.var < level_in entries point.var
  pub top : (l : Literal) × IsTrue (has_literal from l) × (level_in entries l.var ≡ level_in entries point.var)
  pub topmost : All (λ l. level_in entries l.var ≤ level_in entries point.var) from

-- what the end of an analysis knows of the nogood and its point
abbrev pub IsReady : List Entry → List Literal → List Literal → Option Literal → Type 0
IsReady entries from n None = All (λ l. level_in entries l.var ≡ 0) from × All (λ l. level_in entries l.var ≡ 0) n
IsReady entries from n (Some point) = IsTop entries from n point

-- The first n of the marked literals are settled.
abbrev pub AreSettled : ℕ → Marked → Type 0
AreSettled n m = (l : Literal) → IsTrue (has_literal (take n m.lits) l) → is_settled (mark_of m.marks l.var) ≡ true

-- What is open was reached from the nogood, all is settled, and there is a point where the nogood has one.
pub record IsTraced (entries : List Entry) (says : Literal → ℕ → Nogood → Type 0) (from : Nogood) (m : Marked) (b : Base) (point : Option Literal) : Type 0 where
  pub top : ℕ
  pub way : IsOnTheWay entries says from top m b
  pub settled : AreSettled (length m.lits) m
  pub ready : IsReady entries from.lits (filter (λ l. is_open (mark_of m.marks l.var)) m.lits) point

-- What is pending and what is settled stays so, and nothing else becomes pending.
pub record Goes (entries : List Entry) (old new : Marked) : Type 0 where
  pub pending : (l : Literal) → IsOn entries l → mark_of old.marks l.var ≡ mark.Pending → mark_of new.marks l.var ≡ mark.Pending
  pub none : (l : Literal) → IsOn entries l → mark_of new.marks l.var ≡ mark.Pending → mark_of old.marks l.var ≡ mark.Pending
  pub settled : (l : Literal) → IsOn entries l → is_settled (mark_of old.marks l.var) ≡ true → is_settled (mark_of new.marks l.var) ≡ true
  pub marked : (v : ℕ) → is_clean (mark_of old.marks v) ≡ false → is_clean (mark_of new.marks v) ≡ false
  pub grown : (rest : List Literal) × (new.lits ≡ old.lits ++ rest)

-- ---- minimisation
-- A marked literal between level 0 and the conflict's level.
pub record CanGo (entries : List Entry) (top : ℕ) (m : Marked) (l : Literal) : Type 0 where
  pub on : IsOn entries l
  pub low : 0 < level_in entries l.var
  pub high : level_in entries l.var < top
  pub marked : is_clean (mark_of m.marks l.var) ≡ false

-- It is an entry's literal above level 0, of another variable.
pub record IsOther (entries : List Entry) (l : Literal) (v : ℕ) : Type 0 where
  pub on : IsOn entries l
  pub var : l.var ≢ v
  pub low : 0 < level_in entries l.var
