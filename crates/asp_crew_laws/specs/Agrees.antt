-- What a worker's search and its units have to do with the board.
use Rattle.std.specs.Prelude.{◌≡◌, ◌≤◌, false, List, [], ◌∷◌, length, Option, Some, None, ℤ, IsTrue}
use Rattle.std.specs.List.{list_any, AllByRecursion}
use Rattle.std.specs.Option.{IfSome}
use Rattle.asp_model.specs.declared.program.Program.{Program}
use Rattle.asp_model.specs.declared.results.Reasoning.{Reasoning}
use Rattle.asp_model.specs.Consequences.{common_sets, unshown, used_up}
use Rattle.asp_model.specs.Sets.{Atoms, IsSubset, same_set}
use Rattle.asp_vars.specs.Entailment.{is_done}
use Rattle.asp_core.specs.Boards.{Board, IsBoundOf, is_excused, showing_of, sought}

-- Each answer known was delivered; or where consequences are sought those delivered show all that those known show, of which one set
-- stands.
abbrev pub AreRecorded : Option Reasoning → Program → List Atoms → List Atoms → Type 0
AreRecorded None p known delivered = AllByRecursion (λ S. IsTrue (list_any (same_set S) delivered)) known
AreRecorded (Some r) p known delivered = IsSubset (unshown r p delivered) (unshown r p known) × (length known ≤ length (common_sets r p delivered))

-- What the search knows is recorded: the board excuses what the search leaves out, the answers known were delivered, and the
-- search may have its bound.
pub record Agrees (b : Board) (known : List Atoms) (bound : Option (List ℤ)) : Type 0 where
  pub excused : (S : Atoms) → IsTrue (is_done b.task.program (used_up (sought b.task.goal) b.task.program known) bound S) → IsTrue (is_excused b S)
  pub recorded : AreRecorded (sought b.task.goal) b.task.program known (showing_of b)
  pub bounded : IfSome bound (IsBoundOf b)

-- no set stands twice
abbrev pub AreApart : List Atoms → Type 0
AreApart [] = Unit {0}
AreApart (S ∷ K) = (list_any (same_set S) K ≡ false) × AreApart K
