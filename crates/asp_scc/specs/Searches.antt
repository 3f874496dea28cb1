-- What a search through a graph finds.
use Rattle.std.specs.Prelude.{◌≡◌, ℕ, ◌<◌, ◌==◌, All, List, [], ◌∷◌, ◌++◌, if◌then◌else◌, slice_index, slice_set, IsTrue, length}
use Rattle.asp_scc.specs.Graphs.{Graph, is_in, LeadsWithin}

-- A node in the old state comes into the new one, and to the end of the list.
abbrev pub mark : ℕ → ℕ → List ℕ × List ℕ → ℕ → List ℕ × List ℕ
mark old new s v = if slice_index s.0 v == old then (slice_set s.0 v new, s.1 ++ v ∷ []) else s

-- The nodes found are those to which nodes in the old state lead, and these alone come into the new state.
pub record Finds (g : Graph) (old new : ℕ) (from : ℕ) (before after found : List ℕ) : Type 0 where
  pub size : length after ≡ length before
  pub within : All (λ v. v < length before) found
  pub states : (v : ℕ) → slice_index after v ≡ (if is_in found v then new else slice_index before v)
  pub reached : (v : ℕ) → IsTrue (is_in found v) → LeadsWithin g before old from v
  pub all : (v : ℕ) → LeadsWithin g before old from v → IsTrue (is_in found v)
