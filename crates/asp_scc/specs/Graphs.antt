-- Directed graphs.
use Rattle.std.specs.Prelude.{◌≡◌, ℕ, ◌<◌, ◌==◌, Bool, List, [], length, slice_index, slice_index_or, All, IsTrue}
use Rattle.std.specs.List.{list_any}

-- at the place of each node the nodes to which its edges go
abbrev pub Graph : Type 0
Graph = List (List ℕ)

abbrev pub edges : Graph → ℕ → List ℕ
edges g v = slice_index_or g v []

abbrev pub is_in : List ℕ → ℕ → Bool
is_in nodes v = list_any (λ w. w == v) nodes

-- Each edge goes to a node.
abbrev pub IsGraph : Graph → Type 0
IsGraph g = All (All (λ w. w < length g)) g

-- The one graph has the other's edges, turned round.
abbrev pub IsReverse : Graph → Graph → Type 0
IsReverse g b = (v w : ℕ) → is_in (edges g v) w ≡ is_in (edges b w) v

-- From v some edges, or none, lead to w.
pub data Leads (g : Graph) (v : ℕ) : ℕ → Type 0 where
  here : Leads g v v
  on : {u w : ℕ} → Leads g v u → IsTrue (is_in (edges g u) w) → Leads g v w

-- They do so through nodes in this state alone, but for v itself.
pub data LeadsWithin (g : Graph) (states : List ℕ) (state : ℕ) (v : ℕ) : ℕ → Type 0 where
  here : LeadsWithin g states state v v
  on : {u w : ℕ} → LeadsWithin g states state v u → IsTrue (is_in (edges g u) w) → slice_index states w ≡ state → LeadsWithin g states state v w
