-- In which atoms each set differs from the one before it.
use Rattle.std.specs.Prelude.{ℕ, nat_lt, if◌then◌else◌, List, [], ◌∷◌}
use Rattle.asp_model.specs.Sets.{Atoms}

-- the set without the atom, if it has it, else the set with it
abbrev pub toggled : ℕ → Atoms → Atoms
toggled a [] = a ∷ []
toggled a (b ∷ S) = if nat_lt a b then a ∷ b ∷ S else if nat_lt b a then b ∷ toggled a S else S

-- the atoms that one of two sets alone has
abbrev pub changed : Atoms → Atoms → Atoms
changed [] T = T
changed (a ∷ S) T = changed S (toggled a T)

-- the change from each set to the next, where this one comes before the first
abbrev pub changes_from : Atoms → List Atoms → List Atoms
changes_from S [] = []
changes_from S (T ∷ Ts) = changed S T ∷ changes_from T Ts

-- the last of these sets, and this one where there is none
abbrev pub last_from : Atoms → List Atoms → Atoms
last_from S [] = S
last_from S (T ∷ Ts) = last_from T Ts

-- Before the first set there is the empty one.
abbrev pub changes_of : List Atoms → List Atoms
changes_of sets = changes_from [] sets

abbrev pub last_of : List Atoms → Atoms
last_of sets = last_from [] sets
