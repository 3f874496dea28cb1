-- How many components of a program's positive dependencies have a loop.
use Rattle.std.specs.Prelude.{◌≡◌, ℕ, zero, suc, ◌+◌, ◌==◌, Bool, false, not, ◌&&◌, if◌then◌else◌, [], length, slice_index_or}
use Rattle.asp_model.specs.declared.program.Program.{Program}
use Rattle.asp_scc.specs.Components.{AreComponents, Parts}

-- the component has atoms, and isn't one alone that doesn't reach itself
abbrev pub is_loop : Parts → ℕ → Bool
is_loop c k = not (slice_index_or c.trivial k false) && not (length (slice_index_or c.members k []) == 0)

-- how many of the first components have a loop
abbrev pub loops_below : Parts → ℕ → ℕ
loops_below c zero = 0
loops_below c (suc k) = loops_below c k + (if is_loop c k then 1 else 0)

-- So many components have a loop. Any two partitions into components have equally many.
pub record HasLoops (p : Program) (loops : ℕ) : Type 0 where
  pub parts : Parts
  pub components : AreComponents p parts
  pub counts : loops ≡ loops_below parts (length parts.members)
