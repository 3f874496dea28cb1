-- What no event takes back, and what the events of others leave alone.
use Rattle.std.specs.Prelude.{◌≡◌, ℕ, ◌≤◌, List, slice_index_or, ℤ, IsTrue}
use Rattle.std.specs.List.{list_any}
use Rattle.asp_model.specs.Sets.{Atoms, same_set}
use Rattle.asp_path.specs.declared.status.Status.TheVariants as status
use Rattle.asp_path.specs.Trees.{nowhere, status_of}
use Rattle.asp_core.specs.Units.{out_of}
use Rattle.asp_core.specs.Boards.{Board, IsBoundOf, is_excused, known_count}
use Rattle.asp_core.specs.Events.{held_by}

-- from b to c: what was recorded is kept
pub record Grows (b c : Board) : Type 0 where
  pub task : c.task ≡ b.task
  pub excused : (S : Atoms) → IsTrue (is_excused b S) → IsTrue (is_excused c S)
  pub listed : (S : Atoms) → IsTrue (list_any (same_set S) b.answers) → IsTrue (list_any (same_set S) c.answers)
  pub known : known_count b ≤ known_count c
  pub bounds : (d : List ℤ) → IsBoundOf b d → IsBoundOf c d

-- from b to c: what the number has is left alone
pub record Spares (s : ℕ) (b c : Board) : Type 0 where
  pub leaves : (leaf : ℕ) → status_of b.nodes leaf ≡ status.Held s → slice_index_or c.nodes leaf nowhere ≡ slice_index_or b.nodes leaf nowhere
  pub count : held_by s c.nodes ≡ held_by s b.nodes
  pub units : out_of c.out s ≡ out_of b.out s
