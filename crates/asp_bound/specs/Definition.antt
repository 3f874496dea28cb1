-- What the values of all variables cost, and the nogoods that no values below a cost hit.
use Rattle.std.specs.Prelude.{◌≡◌, Bool, false, if◌then◌else◌, List, [], ◌∷◌, map, ℤ, pos, ◌+ℤ◌, IsTrue}
use Rattle.asp_model.specs.declared.program.Program.{Program}
use Rattle.asp_model.specs.Sets.{Atoms}
use Rattle.asp_model.specs.Models.{atoms_of}
use Rattle.asp_model.specs.Costs.{priorities, betters}
use Rattle.asp_vars.specs.Literals.{Literal, is_true, hits}
use Rattle.asp_vars.specs.Numbering.{literal_in}
use Rattle.asp_bound.specs.Optimism.{items_at}

-- the sum of the weights of the literals that pass a test, each time that one is listed
abbrev pub weight_that : (Literal → Bool) → Atoms → List (ℤ × ℤ) → ℤ
weight_that t atoms [] = pos 0
weight_that t atoms (i ∷ items) = (if t (literal_in atoms i.0) then i.1 else pos 0) +ℤ weight_that t atoms items

-- at a priority, the weights of the literals that the values make true
abbrev pub cost_of_at : Program → List Bool → ℤ → ℤ
cost_of_at p v q = weight_that (is_true v) (atoms_of p) (items_at p.minimize q)

-- what the values cost, the greatest priority first
abbrev pub cost_of : Program → List Bool → List ℤ
cost_of p v = map (cost_of_at p v) (priorities p.minimize)

-- No values of all variables that cost less than c hit the literals.
pub record ExcludesBelow (p : Program) (c : List ℤ) (n : List Literal) : Type 0 where
  pub excluded : (v : List Bool) → IsTrue (hits v n) → betters (cost_of p v) c ≡ false
