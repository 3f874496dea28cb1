-- Brave and cautious consequences: what is in some answer, and what is in every one.
use Rattle.std.specs.Prelude.{ℕ, Bool, false, not, List, [], ◌∷◌, filter, Option, None, Some}
use Rattle.std.specs.List.{list_any, list_all}
use Rattle.asp_model.specs.declared.program.Program.{Program}
use Rattle.asp_model.specs.declared.results.Reasoning.{Reasoning}
use Rattle.asp_model.specs.declared.results.Reasoning.TheVariants.{Brave, Cautious}
use Rattle.asp_model.specs.Sets.{Atoms, has}
use Rattle.asp_model.specs.Models.{atoms_of, models}

-- ---- what sets have in common
-- the program's atoms that are in some of the sets
abbrev pub union : Program → List Atoms → Atoms
union p K = filter (λ a. list_any (λ S. has S a) K) (atoms_of p)

-- the program's atoms that are in each of the sets
abbrev pub intersection : Program → List Atoms → Atoms
intersection p K = filter (λ a. list_all (λ S. has S a) K) (atoms_of p)

abbrev pub consequences : Reasoning → Program → List Atoms → Atoms
consequences Brave p K = union p K
consequences Cautious p K = intersection p K

-- Without a set there is nothing that holds in some of them, and no telling what holds in all.
abbrev pub consequences_of : Reasoning → Program → List Atoms → Option Atoms
consequences_of r p [] = None
consequences_of r p (S ∷ K) = Some (consequences r p (S ∷ K))

-- ---- how an answer tells of an atom
-- whether S shows what can be shown of the atom: that it is in some answer, or that it isn't in every one
abbrev pub shows : Reasoning → Atoms → ℕ → Bool
shows Brave S a = has S a
shows Cautious S a = not (has S a)

-- the program's atoms of which none of the sets shows that
abbrev pub unshown : Reasoning → Program → List Atoms → Atoms
unshown r p K = filter (λ a. not (list_any (λ S. shows r S a) K)) (atoms_of p)

-- the set that shows exactly the others of the program's atoms
abbrev pub told_set : Reasoning → Program → Atoms → Atoms
told_set Brave p L = filter (λ a. not (has L a)) (atoms_of p)
told_set Cautious p L = L

-- whether some answer is known, and S shows nothing that none of them shows
abbrev pub covers : Reasoning → Program → List Atoms → Atoms → Bool
covers r p [] S = false
covers r p (T ∷ K) S = not (list_any (shows r S) (unshown r p (T ∷ K)))

-- The stable models that need not be found again where these answers are known: themselves; or where consequences are sought all that
-- show nothing else.
abbrev pub used_up : Option Reasoning → Program → List Atoms → List Atoms
used_up None p K = K
used_up (Some r) p K = filter (covers r p K) (models p)

-- what these answers have in common as a set that stands for them: none where there is no answer
abbrev pub common_sets : Reasoning → Program → List Atoms → List Atoms
common_sets r p [] = []
common_sets r p (S ∷ K) = consequences r p (S ∷ K) ∷ []
