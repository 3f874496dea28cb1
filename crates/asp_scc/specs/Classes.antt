-- The classes of nodes that lead to each other.
use Rattle.std.specs.Prelude.{◌≡◌, ◌≢◌, ℕ, ◌+◌, ◌==◌, List, if◌then◌else◌, slice_index, slice_set}
use Rattle.asp_scc.specs.Graphs.{Graph, Leads}

-- Each leads to the other.
abbrev pub AreMutual : Graph → ℕ → ℕ → Type 0
AreMutual g v w = Leads g v w × Leads g w v

-- A node that isn't free, 0, has the number of its class: two more than one of the class's nodes. With a node its whole class has it.
pub record AreClasses (g : Graph) (states : List ℕ) : Type 0 where
  pub whole : (v w : ℕ) → AreMutual g v w → slice_index states v ≢ 0 → slice_index states w ≡ slice_index states v
  pub alone : (v w : ℕ) → slice_index states v ≡ slice_index states w → slice_index states v ≢ 0 → AreMutual g v w
  pub named : (v : ℕ) → slice_index states v ≢ 0 → (u : ℕ) × (slice_index states v ≡ u + 2) × (slice_index states u ≡ slice_index states v)

-- Where the one list has a class, the other has the same.
abbrev pub KeepsClasses : List ℕ → List ℕ → Type 0
KeepsClasses before after = (v : ℕ) → slice_index before v ≢ 0 → slice_index after v ≡ slice_index before v

-- A node that was found, 1, is free again.
abbrev pub released : List ℕ → ℕ → List ℕ
released states v = if slice_index states v == 1 then slice_set states v 0 else states
