-- Source pointers.
use Rattle.std.specs.Prelude.{◌≡◌, ◌≢◌, ℕ, ◌+◌, ◌-◌, ◌<◌, ◌≤◌, ◌==◌, ◌⊎◌, Bool, true, false, not, List, Option, is_some, if◌then◌else◌, slice_index, slice_index_or, slice_set, nat_le, length, IsTrue}
use Rattle.std.specs.List.{All}
use Rattle.asp_model.specs.declared.program.Program.{Program}
use Rattle.asp_model.specs.Sets.{has}
use Rattle.asp_model.specs.Models.{atoms_of}
use Rattle.asp_vars.specs.Literals.{Literal, F, holds_in}
use Rattle.asp_vars.specs.Numbering.{nth_atom, nth_body}
use Rattle.asp_vars.specs.Completion.{supports}
use Rattle.asp_vars.specs.Tabled.{bound_of, heads_of, IsAtomVar}
use Rattle.asp_table.specs.declared.columns.Occurrence.{Occurrence}
use Rattle.asp_scc.specs.Components.{Parts}
use Rattle.asp_source.specs.Marks.{is_marked}
use Rattle.asp_source.specs.Ranks.{AreRanked}

-- A source is the body of a rule for its atom.
abbrev pub AreSupports : Program → List ℕ → Type 0
AreSupports p sources = (v : ℕ) → IsAtomVar p v → slice_index sources v ≢ 0 → IsTrue (has (supports p (nth_atom p (v - 1))) (slice_index sources v))

-- An atom without source is false, or alone, or queued, or a candidate.
abbrev pub AreSought : Program → Parts → List (Option Bool) → List ℕ → List Bool → List Bool → Type 0
AreSought p c x sources queue loose =
    (v : ℕ) → IsAtomVar p v → slice_index sources v ≡ 0 → slice_index_or c.trivial (slice_index c.numbers v) false ≡ false → holds_in x (F v) ≡ false →
    (is_marked queue (v - 1) ≡ true) ⊎ (is_marked loose v ≡ true)

pub record ArePointers (p : Program) (c : Parts) (x : List (Option Bool)) (sources ranks : List ℕ) (queue loose : List Bool) : Type 0 where
  pub size : length sources ≡ length (atoms_of p) + 1
  pub rank_room : length ranks ≡ length (atoms_of p) + 1
  pub room : length queue ≡ length (atoms_of p)
  pub supports : AreSupports p sources
  pub ranked : AreRanked p c x ranks (is_marked loose) sources
  pub sought : AreSought p c x sources queue loose

-- Each candidate is an atom of the component, isn't false, and has no source.
pub record AreCandidates (p : Program) (c : Parts) (x : List (Option Bool)) (k : ℕ) (sources : List ℕ) (loose : List Bool) : Type 0 where
  pub size : length loose ≡ length (atoms_of p) + 1
  pub atoms : (v : ℕ) → is_marked loose v ≡ true → IsAtomVar p v
  pub at : (v : ℕ) → is_marked loose v ≡ true → slice_index c.numbers v ≡ k
  pub not_false : (v : ℕ) → is_marked loose v ≡ true → holds_in x (F v) ≡ false
  pub bare : (v : ℕ) → is_marked loose v ≡ true → slice_index sources v ≡ 0

-- ---- sources that go
-- None of the first n bodies is a weight body.
abbrev pub AreNormal : Program → ℕ → Type 0
AreNormal p n = (j : ℕ) → j < n → is_some (bound_of (nth_body p j)) ≡ false

-- Sources go alone, and of each that goes the atom is queued.
pub record Loses (old : List ℕ) (queue : List Bool) (new : List ℕ) (queue_then : List Bool) : Type 0 where
  pub size : length new ≡ length old
  pub room : length queue_then ≡ length queue
  pub less : (v : ℕ) → (slice_index new v ≡ slice_index old v) ⊎ ((slice_index new v ≡ 0) × (is_marked queue_then (v - 1) ≡ true))
  pub more : (k : ℕ) → is_marked queue k ≡ true → is_marked queue_then k ≡ true

abbrev pub IsGone : List ℕ → ℕ → ℕ → Type 0
IsGone sources body v = slice_index sources v ≢ body

-- No head of the body has it as its source.
abbrev pub AreGone : Program → List ℕ → ℕ → Type 0
AreGone p sources j = All (IsGone sources (length (atoms_of p) + 1 + j)) (heads_of p (nth_body p j))

-- No head of the body that the occurrence is of has it as its source.
abbrev pub IsGoneAt : Program → List ℕ → Occurrence → Type 0
IsGoneAt p sources o = AreGone p sources o.body

abbrev pub IsGoneBy : Program → List ℕ → Occurrence → Type 0
IsGoneBy p sources o = is_some (bound_of (nth_body p o.body)) ≡ true → AreGone p sources o.body

-- Candidates settle: each goes that gets a source.
pub record IsSettling (p : Program) (c : Parts) (x : List (Option Bool)) (k : ℕ) (sources ranks : List ℕ) (queue loose : List Bool) : Type 0 where
  pub pointers : ArePointers p c x sources ranks queue loose
  pub candidates : AreCandidates p c x k sources loose

-- ---- an atom that is looked for
abbrev pub seek : Parts → List ℕ → List Bool → ℕ → List Bool
seek c sources queue v = if not (slice_index sources v == 0) then queue else if slice_index_or c.trivial (slice_index c.numbers v) false then queue else slice_set queue (v - 1) true

abbrev pub regain : Program → Parts → List ℕ → List Bool → Literal → List Bool
regain p c sources queue l = if l.truth then queue else if nat_le l.var (length (atoms_of p)) then seek c sources queue l.var else queue

-- ---- at the start
-- The first n atoms are queued, but for those of trivial components.
abbrev pub AreMarked : Parts → ℕ → List Bool → Type 0
AreMarked c n queue = (v : ℕ) → 0 < v → v ≤ n → slice_index_or c.trivial (slice_index c.numbers v) false ≡ false → is_marked queue (v - 1) ≡ true
