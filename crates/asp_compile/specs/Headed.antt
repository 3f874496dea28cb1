-- The heads of rules, and which of them have none, by the places of their bodies.
use Rattle.std.specs.Prelude.{◌≡◌, ℕ, ◌<◌, ◌==◌, ◌&&◌, ◌||◌, Bool, true, false, List, [], ◌∷◌, ◌++◌, map, length, if◌then◌else◌, slice_index_or}
use Rattle.std.specs.List.{AllByRecursion}
use Rattle.asp_model.specs.declared.program.Rule.{Rule}
use Rattle.asp_model.specs.Sets.{Atoms, has}
use Rattle.asp_model.specs.Models.{head_atoms, is_never}
use Rattle.asp_vars.specs.Numbering.{var_in}

-- The head atoms of the rules are among these.
abbrev pub HeadsStand : Atoms → List Rule → Type 0
HeadsStand atoms rules = AllByRecursion (λ r. AllByRecursion (λ a. has atoms a ≡ true) (head_atoms r.head)) rules

-- the head atoms of the rules whose bodies have this place
abbrev pub heads_at : ℕ → List ℕ → List Rule → List ℕ
heads_at j [] rules = []
heads_at j (n ∷ places) [] = []
heads_at j (n ∷ places) (r ∷ rules) = (if n == j then head_atoms r.head else []) ++ heads_at j places rules

-- For each place below the count the variables of those atoms.
pub record AreHeads (heads : List (List ℕ)) (atoms : Atoms) (count : ℕ) (places : List ℕ) (rules : List Rule) : Type 0 where
  pub whole : length heads ≡ count
  pub rows : (j : ℕ) → j < count → slice_index_or heads j [] ≡ map (var_in atoms) (heads_at j places rules)

-- whether one of the rules whose bodies have this place is a constraint
abbrev pub is_barred_at : ℕ → List ℕ → List Rule → Bool
is_barred_at j [] rules = false
is_barred_at j (n ∷ places) [] = false
is_barred_at j (n ∷ places) (r ∷ rules) = (is_never r.head && n == j) || is_barred_at j places rules

-- For each place below the count whether that is so.
pub record AreBarred (marks : List Bool) (count : ℕ) (places : List ℕ) (rules : List Rule) : Type 0 where
  pub whole : length marks ≡ count
  pub each : (j : ℕ) → j < count → slice_index_or marks j false ≡ is_barred_at j places rules
