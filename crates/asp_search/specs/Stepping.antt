-- What the parts of a step rely on.
use Rattle.std.specs.Prelude.{◌≡◌, ◌++◌, false, List, ◌∷◌, Some, None, IsTrue, []}
use Rattle.std.specs.List.{list_any}
use Rattle.asp_model.specs.Sets.{Atoms, same_set}
use Rattle.asp_model.specs.Models.{is_stable}
use Rattle.asp_model.specs.Costs.{cost}
use Rattle.asp_vars.specs.Literals.{Literal, hits}
use Rattle.asp_vars.specs.Numbering.{values}
use Rattle.asp_vars.specs.Entailment.{Settled}
use Rattle.asp_propagate.specs.Useful.{IsSmaller}
use Rattle.asp_search_laws.specs.Searching.{Searching, used}

-- A path is entered, under a cube that can be tried, and nothing was learnt in this step.
pub record IsEntered (s : Searching) (q : List Literal) : Type 0 where
  pub cube : s.cube ≡ Some q
  pub clear : s.clashing ≡ false
  pub last : s.last ≡ None

-- The set of the whole trail is an answer, which was not known, and costs less than the bound.
pub record IsFound (s : Searching) (q : List Literal) (S : Atoms) : Type 0 where
  pub stable : IsTrue (is_stable s.program S)
  pub hit : IsTrue (hits (values s.program S) (q ++ s.decisions))
  pub new : list_any (same_set S) (used s) ≡ false
  pub cheaper : IsSmaller (cost s.program S) s.bound
  pub settled : Settled s.program (used s ++ S ∷ []) s.bound (q ++ s.decisions)
