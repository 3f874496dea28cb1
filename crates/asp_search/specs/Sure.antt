-- What a search knows without a decision.
use Rattle.std.specs.Prelude.{◌≡◌, ℕ, Bool, false, List, Some, slice_index_or, IsTrue}
use Rattle.asp_model.specs.Sets.{Atoms}
use Rattle.asp_model.specs.Models.{is_stable}
use Rattle.asp_vars.specs.Entailment.{is_done}
use Rattle.asp_vars.specs.Literals.{Literal, hits}
use Rattle.asp_vars.specs.Numbering.{values}
use Rattle.asp_search_laws.specs.Searching.{Searching, used}

-- Each answer that is still to come on the path gives the variable this value.
abbrev pub IsFixed : Searching → ℕ → Bool → Type 0
IsFixed s v b = (q : List Literal) (S : Atoms) → s.cube ≡ Some q → IsTrue (is_stable s.program S) → IsTrue (hits (values s.program S) q) → is_done s.program (used s) s.bound S ≡ false
    → slice_index_or (values s.program S) v false ≡ b
