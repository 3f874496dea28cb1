-- A set of atoms as a table of flags.
use Rattle.std.specs.Prelude.{ℕ, suc, Bool, true, false, List, [], ◌∷◌, fold, slice_set}
use Rattle.asp_model.specs.Sets.{Atoms}

-- the places of the flags that are up, the first of which is n
abbrev pub places_from : ℕ → List Bool → Atoms
places_from n [] = []
places_from n (true ∷ flags) = n ∷ places_from (suc n) flags
places_from n (false ∷ flags) = places_from (suc n) flags

-- the flags of the atoms set one after the other; there is none for an atom past the end
abbrev pub with_flags : Bool → List Bool → List ℕ → List Bool
with_flags up flags atoms = fold (λ f a. slice_set f a up) flags atoms
