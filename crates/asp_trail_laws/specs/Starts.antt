-- What begins a trail's levels: the cube and the decisions.
use Rattle.std.specs.Prelude.{◌≡◌, ℕ, ◌+◌, ◌<◌, List, length, Some, None, IsTrue, slice_index_or}
use Rattle.std.specs.List.{All}
use Rattle.asp_vars.specs.Literals.{Literal, F, has_literal}
use Rattle.asp_trail.specs.declared.trail.Entry.{Entry}
use Rattle.asp_trail.specs.Entries.{level}
use Rattle.asp_trail.specs.Reasons.{Stands}

-- the decision of level k + 1
abbrev pub nth_decision : List Literal → ℕ → Literal
nth_decision decisions k = slice_index_or decisions k (F 0)

-- The entry's literal is of the cube at level 0, and else the decision of its level.
pub record IsStart (cube decisions : List Literal) (e : Entry) : Type 0 where
  pub assumed : e.level ≡ 0 → IsTrue (has_literal cube e.lit)
  pub decided : (k : ℕ) → e.level ≡ k + 1 → e.lit ≡ nth_decision decisions k

-- All of these literals stand at level 0, assumed or implied.
abbrev pub AreAtZero : List Literal → List Entry → Type 0
AreAtZero cube entries = (l : Literal) → IsTrue (has_literal cube l) → (i : ℕ) × Stands entries l i 0

-- The literal stands at this level, and wasn't implied.
pub record Begins (entries : List Entry) (l : Literal) (b : ℕ) : Type 0 where
  pub place : ℕ
  pub stands : Stands entries l place b
  pub unimplied : (d : Entry) → (slice_index_or entries place d).reason ≡ None

-- An entry that wasn't implied is of the cube or a decision. All of the cube stands at level 0, and one decision begins each level above.
pub record AreStarts (cube decisions : List Literal) (entries : List Entry) : Type 0 where
  pub counted : length decisions ≡ level entries
  pub starts : (i : ℕ) (d : Entry) → i < length entries → (slice_index_or entries i d).reason ≡ None → IsStart cube decisions (slice_index_or entries i d)
  pub cube_stands : AreAtZero cube entries
  pub decisions_stand : (k : ℕ) → k < length decisions → Begins entries (nth_decision decisions k) (k + 1)

-- ---- while a cube is assumed
-- A literal of the cube that is assumed.
pub record IsAssumed (cube : List Literal) (e : Entry) : Type 0 where
  pub lit : IsTrue (has_literal cube e.lit)
  pub level : e.level ≡ 0
  pub reason : e.reason ≡ None

-- Nothing was implied or decided yet.
abbrev pub AreAssumed : List Literal → List Entry → Type 0
AreAssumed cube entries = All (IsAssumed cube) entries

-- ---- entries that are added
-- All were implied at this level.
abbrev pub AreImplied : ℕ → List Entry → Type 0
AreImplied b entries = All (λ e. (e.level ≡ b) × ((id : ℕ) × (e.reason ≡ Some id))) entries
