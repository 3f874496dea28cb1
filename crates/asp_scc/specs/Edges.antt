-- One more edge.
use Rattle.std.specs.Prelude.{ℕ, [], ◌∷◌, ◌++◌, slice_index_or, slice_set}
use Rattle.asp_scc.specs.Graphs.{Graph}

-- the edge from w to v
abbrev pub with_edge : ℕ → Graph → ℕ → Graph
with_edge v rows w = slice_set rows w (slice_index_or rows w [] ++ v ∷ [])
