-- A walk over the subsets of a list of atoms, in their order.
use Rattle.std.specs.Prelude.{Bool, true, false, ◌&&◌, if◌then◌else◌, List, [], ◌∷◌, ◌++◌, map, ℤ, Option, None, Some}
use Rattle.asp_model.specs.declared.program.Program.{Program}
use Rattle.asp_model.specs.Sets.{Atoms, subsets}
use Rattle.asp_model.specs.Holding.{all_hold}
use Rattle.asp_model.specs.Models.{is_stable}
use Rattle.asp_model.specs.Costs.{cost, betters}

-- the atoms whose places are marked
abbrev pub picked : Atoms → List Bool → Atoms
picked [] marks = []
picked (a ∷ L) [] = []
picked (a ∷ L) (true ∷ marks) = a ∷ picked L marks
picked (a ∷ L) (false ∷ marks) = picked L marks

-- the subsets from the picked one on
abbrev pub subsets_from : Atoms → List Bool → List Atoms
subsets_from [] marks = [] ∷ []
subsets_from (a ∷ L) [] = []
subsets_from (a ∷ L) (true ∷ marks) = map (λ S. a ∷ S) (subsets_from L marks)
subsets_from (a ∷ L) (false ∷ marks) = subsets_from L marks ++ map (λ S. a ∷ S) (subsets L)

-- whether the set is a stable model in which all assumptions hold
abbrev pub is_answer : Program → Atoms → Bool
is_answer p S = is_stable p S && all_hold S p.assumptions

-- the better of the best so far and another set with its cost
abbrev pub improved : Option (Atoms × List ℤ) → Atoms × List ℤ → Option (Atoms × List ℤ)
improved None other = Some other
improved (Some best) other = if betters other.1 best.1 then Some other else Some best

-- the best so far, after another set
abbrev pub better_of : Program → Option (Atoms × List ℤ) → Atoms → Option (Atoms × List ℤ)
better_of p best S = if is_answer p S then improved best (S, cost p S) else best
