-- Learning by resolution, up to the first unique implication point.
use Rattle.std.specs.Prelude.{◌≡◌, ◌≢◌, ℕ, ◌<◌, ◌≤◌, Bool, ◌||◌, List, [], ◌∷◌, Option, Some, None, ℤ, IsTrue}
use Rattle.std.specs.List.{All, list_any}
use Rattle.asp_vars.specs.Literals.{Literal, complement, literal_eq, has_literal, holds_in}
use Rattle.asp_vars.specs.Resolution.{joined, CanJoin}
use Rattle.asp_vars.specs.declared.nogood.Nogood.{Nogood}
use Rattle.asp_vars.specs.declared.nogood.Base.{Base}
use Rattle.asp_trail.specs.declared.trail.Entry.{Entry}
use Rattle.asp_trail.specs.Entries.{assignment, level_in, reason_in}
use Rattle.asp_trail.specs.Reasons.{Stands, IsReason}
use Rattle.asp_analyze.specs.declared.learn.Learned.{Learned}
use Rattle.asp_analyze.specs.declared.learn.Learned.TheVariants as learned

-- a literal that was resolved, and the reason by which it was
pub record Used : Type 0 where
  pub lit : Literal
  pub nogood : Nogood

-- An entry has the literal, and the nogood is a reason of it.
pub record IsUsed (entries : List Entry) (u : Used) : Type 0 where
  pub place : ℕ
  pub stands : Stands entries u.lit place (level_in entries u.lit.var)
  pub reason : IsReason entries place u.lit u.nogood.lits

-- The nogood is said to be the literal's reason, by the number that the entry names.
pub record IsNamed (says : Literal → ℕ → Nogood → Type 0) (entries : List Entry) (u : Used) : Type 0 where
  pub number : ℕ
  pub names : reason_in entries u.lit.var ≡ Some number
  pub said : says u.lit number u.nogood

-- One of these was resolved on the literal.
abbrev pub is_resolved : List Used → Literal → Bool
is_resolved used l = list_any (λ u. literal_eq u.lit l) used

-- The nogood has the literal, or one of the reasons used does.
abbrev pub is_from : Nogood → List Used → Literal → Bool
is_from from used l = has_literal from.lits l || list_any (λ u. has_literal u.nogood.lits l) used

-- the base, joined with those of the reasons used in turn
abbrev pub base_after : Base → List Used → Base
base_after b [] = b
base_after b (u ∷ used) = base_after (joined b u.nogood.base) used

-- One nogood is reached from the other by resolution with these reasons, each used once: a literal of the first, or of a reason but
-- for what it implied, is in the second or was resolved; each literal of the second comes from one of them.
pub record IsReached (entries : List Entry) (from : Nogood) (used : List Used) (to : Nogood) : Type 0 where
  pub reasons : All (IsUsed entries) used
  pub given : (l : Literal) → IsTrue (has_literal from.lits l) → IsTrue (has_literal to.lits l || is_resolved used l)
  pub others : All (λ u. (l : Literal) → IsTrue (has_literal u.nogood.lits l) → l ≢ complement u.lit → IsTrue (has_literal to.lits l || is_resolved used l)) used
  pub known : (l : Literal) → IsTrue (has_literal to.lits l) → IsTrue (is_from from used l)
  pub base : to.base ≡ base_after from.base used

-- what resolution asks of the bases, where they are joined in turn
abbrev pub CanJoinAll : Option (List ℤ) → Base → List Used → Type 0
CanJoinAll bound b [] = Unit {0}
CanJoinAll bound b (u ∷ used) = CanJoin bound b u.nogood.base × CanJoinAll bound (joined b u.nogood.base) used

abbrev pub AreContained : ℕ → List Entry → List Literal → Type 0
AreContained vars entries n = All (λ l. IsTrue (holds_in (assignment vars entries) l)) n

-- Literals of level 0 are of the cube: they were assumed.
abbrev pub AreAssumed : List Entry → List Literal → Type 0
AreAssumed entries n = All (λ l. level_in entries l.var ≡ 0 → reason_in entries l.var ≡ None) n

-- Only the complement of lit is above the level, which is the greatest of the others', or 0. It is of the greatest level of those from
-- which the nogood was learnt.
pub record IsJump (entries : List Entry) (from n : List Literal) (level : ℕ) (lit : Literal) : Type 0 where
  pub has : IsTrue (has_literal n (complement lit))
  pub above : level < level_in entries lit.var
  pub others : (l : Literal) → IsTrue (has_literal n l) → l ≢ complement lit → level_in entries l.var ≤ level
  pub attained : 0 < level → (l : Literal) × IsTrue (has_literal n l) × (l ≢ complement lit) × (level_in entries l.var ≡ level)
  pub top : (l : Literal) × IsTrue (has_literal from l) × (level_in entries l.var ≡ level_in entries lit.var)
  pub topmost : All (λ l. level_in entries l.var ≤ level_in entries lit.var) from

-- The nogood lies in the cube where that from which it was learnt lies at level 0, or it makes the search jump.
abbrev pub IsLearned : List Entry → List Literal → Learned → Type 0
IsLearned entries from (learned.InCube n) = All (λ l. level_in entries l.var ≡ 0) from × All (λ l. level_in entries l.var ≡ 0) n.lits
IsLearned entries from (learned.Jump n level lit) = IsJump entries from n.lits level lit

abbrev pub nogood_of : Learned → Nogood
nogood_of (learned.InCube n) = n
nogood_of (learned.Jump n level lit) = n
