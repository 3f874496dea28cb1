-- What a search knows of the answers still to come on its path.
use Rattle.std.specs.Prelude.{◌≡◌, ℕ, ◌==◌, Bool, true, false, ◌&&◌, List, Some, slice_index_or, IsTrue}
use Rattle.std.specs.List.{list_any}
use Rattle.asp_model.specs.Sets.{Atoms, IsSubset}
use Rattle.asp_model.specs.Models.{is_stable}
use Rattle.asp_vars.specs.Entailment.{is_done}
use Rattle.asp_vars.specs.Literals.{Literal, hits}
use Rattle.asp_vars.specs.Numbering.{values}
use Rattle.asp_search_laws.specs.Searching.{Searching, used}

-- The set is an answer still to come on the path, and has these literals too.
pub record IsToCome (s : Searching) (q more : List Literal) (S : Atoms) : Type 0 where
  pub stable : IsTrue (is_stable s.program S)
  pub path : IsTrue (hits (values s.program S) q)
  pub has : IsTrue (hits (values s.program S) more)
  pub new : is_done s.program (used s) s.bound S ≡ false

-- The variable is true in each of these answers.
abbrev pub IsSureVar : Searching → List Literal → ℕ → Type 0
IsSureVar s more v = (q : List Literal) (S : Atoms) → s.cube ≡ Some q → IsToCome s q more S → slice_index_or (values s.program S) v false ≡ true

-- Each of these answers has all atoms of the set.
abbrev pub IsSure : Searching → List Literal → Atoms → Type 0
IsSure s more low = (q : List Literal) (S : Atoms) → s.cube ≡ Some q → IsToCome s q more S → IsSubset low S

-- whether one of the literals says that the variable is true
abbrev pub says_true : List Literal → ℕ → Bool
says_true lits v = list_any (λ l. (l.var == v) && l.truth) lits
