-- Sums over the literals of a weight body, as the code walks them.
use Rattle.std.specs.Prelude.{◌≡◌, ℕ, Bool, true, false, not, ◌&&◌, ◌||◌, ◌⊎◌, List, [], ◌∷◌, ◌++◌, Option, ℤ, pos, ◌+ℤ◌, ◌-ℤ◌, ◌<ℤ◌, ◌≤ℤ◌, ◌<◌, if◌then◌else◌, MatchOption, IsTrue}
use Rattle.std.specs.List.{list_any, AllByRecursion}
use Rattle.asp_model.specs.declared.program.Program.{Program}
use Rattle.asp_model.specs.Sets.{Atoms, has}
use Rattle.asp_model.specs.Models.{atoms_of}
use Rattle.asp_vars.specs.Literals.{Literal, complement, literal_eq, has_literal, holds_in}
use Rattle.asp_vars.specs.Numbering.{var_of_atom}

-- the sum of the weights at the places of the literals that pass
abbrev pub weigh : (Literal → Bool) → List Literal → List ℤ → ℤ
weigh q [] weights = pos 0
weigh q (l ∷ lits) [] = pos 0
weigh q (l ∷ lits) (w ∷ weights) = (if q l then w else pos 0) +ℤ weigh q lits weights

-- The set has the variables of the atoms of U.
abbrev pub AreVarsOf : Program → Atoms → Atoms → Type 0
AreVarsOf p U vars = (a : ℕ) → IsTrue (has (atoms_of p) a) → has vars (var_of_atom p a) ≡ has U a

-- whether the literal says that one of the atoms of these variables is true
abbrev pub is_within : Atoms → Literal → Bool
is_within vars l = l.truth && has vars l.var

-- whether a literal counts: outside of the set, and not false if only the others are asked for
abbrev pub counts : List (Option Bool) → Atoms → Bool → Literal → Bool
counts x vars open_only l = not (is_within vars l) && (not open_only || not (holds_in x (complement l)))

-- what is left of the bound, where something is
abbrev pub IsSlack : ℤ → ℤ → Option ℕ → Type 0
IsSlack bound weight slack = MatchOption slack (bound ≤ℤ weight) (λ s. (pos s ≡ (bound -ℤ weight)) × (0 < s))

-- whether the literal is false, and outside of the set
abbrev pub is_choice : List (Option Bool) → Atoms → Literal → Bool
is_choice x vars l = not (is_within vars l) && holds_in x (complement l)

-- whether a literal outside of the set has its weight left where all of these hold
abbrev pub is_kept : Atoms → List Literal → Literal → Bool
is_kept vars part l = not (is_within vars l) && not (has_literal part (complement l))

-- One literal: nothing changes unless it is false and outside; then its weight is taken, or its complement is chosen.
abbrev pub ChoosesOne : List (Option Bool) → Atoms → Literal → ℤ → ℕ → ℕ → List Literal → List Literal → Type 0
ChoosesOne x vars l weight left rest old new =
    (0 < rest)
    × (((is_choice x vars l ≡ false) × (rest ≡ left) × (new ≡ old))
    ⊎ ((is_choice x vars l ≡ true) × (pos rest ≡ (pos left -ℤ weight)) × (new ≡ old))
    ⊎ ((is_choice x vars l ≡ true) × (rest ≡ left) × (new ≡ old ++ complement l ∷ [])))

-- Some choices are added, all of them false literals outside of the set, without which the others that are false don't use up what is left.
pub record Chooses (x : List (Option Bool)) (vars : Atoms) (lits : List Literal) (weights : List ℤ) (slack : ℕ) (old new : List Literal) : Type 0 where
  pub part : List Literal
  pub is : new ≡ old ++ part
  pub chosen : AllByRecursion (λ l. list_any (λ k. is_choice x vars k && literal_eq (complement k) l) lits ≡ true) part
  pub enough : weigh (is_kept vars part) lits weights <ℤ (weigh (counts x vars true) lits weights +ℤ pos slack)
