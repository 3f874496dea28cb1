-- What optimisations of the parts of a program found.
use Rattle.std.specs.Prelude.{◌≡◌, Bool, true, false, List, [], ◌∷◌, Option, Some, None, ℤ}
use Rattle.asp_model.specs.declared.program.Program.{Program}
use Rattle.asp_model.specs.Sets.{Atoms}
use Rattle.asp_model.specs.Models.{answers}
use Rattle.asp_model.specs.Costs.{IsOptimum, betters}
use Rattle.asp_split.specs.Parts.{assuming}

-- what a finished optimisation has: an answer with its cost that none betters, and none where there is no answer
abbrev pub IsBest : Program → Option (Atoms × List ℤ) → Type 0
IsBest p None = answers p ≡ []
IsBest p (Some best) = IsOptimum p best.0 best.1

-- one of each part
abbrev pub AreBests : Program → List (List ℤ) → List (Option (Atoms × List ℤ)) → Type 0
AreBests p [] [] = Unit {0}
AreBests p (cube ∷ cubes) (best ∷ bests) = IsBest (assuming p cube) best × AreBests p cubes bests
AreBests p [] (best ∷ bests) = ⊥
AreBests p (cube ∷ cubes) [] = ⊥

-- whether the first is one, and the second none or one of greater cost
abbrev pub is_better : Option (Atoms × List ℤ) → Option (Atoms × List ℤ) → Bool
is_better None best = false
is_better (Some new) None = true
is_better (Some new) (Some best) = betters new.1 best.1
