-- Loop nogoods (Gebser, Kaufmann, Schaub 2012), with weight bodies.
use Rattle.std.specs.Prelude.{◌≡◌, ℕ, Bool, not, ◌&&◌, ◌⊎◌, List, [], ◌∷◌, ◌++◌, Option, ℤ, pos, ◌+ℤ◌, int_lt, IsTrue, MatchBool, if◌then◌else◌}
use Rattle.std.specs.List.{list_any, list_all, AllByRecursion}
use Rattle.asp_model.specs.declared.program.Body.{Body}
use Rattle.asp_model.specs.declared.program.Body.TheVariants as body
use Rattle.asp_model.specs.declared.program.Program.{Program}
use Rattle.asp_model.specs.Sets.{Atoms, has}
use Rattle.asp_model.specs.Models.{rules_in_force, head_atoms}
use Rattle.asp_vars.specs.declared.nogood.Base.TheVariants as base
use Rattle.asp_vars.specs.declared.nogood.Nogood.{Nogood}
use Rattle.asp_vars.specs.Literals.{Literal, T, complement, literal_eq, has_literal, holds_in}
use Rattle.asp_vars.specs.Numbering.{normal, body_eq, var_of_atom, literal_of_form, literal_of}
use Rattle.asp_vars.specs.Entailment.{Entailed}
use Rattle.asp_vars.specs.Unfounded.{is_inside, is_unfounded}

-- whether a rule with a head atom in U has this body
abbrev pub supports_some : Program → Atoms → Body → Bool
supports_some p U b = list_any (λ r. list_any (has U) (head_atoms r.head) && body_eq (normal r.body) b) (rules_in_force p)

-- the sum of the weights of the literals that pass
abbrev pub weight_where : (ℤ → Bool) → List (ℤ × ℤ) → ℤ
weight_where q [] = pos 0
weight_where q (item ∷ items) = (if q item.0 then item.1 else pos 0) +ℤ weight_where q items

-- whether a literal outside of U still counts where all of these literals hold
abbrev pub is_left : Program → Atoms → List Literal → ℤ → Bool
is_left p U part l = not (is_inside U l) && not (has_literal part (complement (literal_of p l)))

-- Complements of literals outside of U, without which the others outside of U don't reach the bound.
pub record IsChosen (p : Program) (U : Atoms) (bound : ℤ) (items : List (ℤ × ℤ)) (part : List Literal) : Type 0 where
  pub outside : AllByRecursion (λ l. IsTrue (list_any (λ i. not (is_inside U i.0) && literal_eq (complement (literal_of p i.0)) l) items)) part
  pub enough : IsTrue (int_lt (weight_where (is_left p U part) items) bound)

-- What a body of a rule for U adds. A normal body adds nothing if it needs U, and else that it is false.
-- A weight body adds nothing if it can't be reached from outside of U, and else that it is false or why it isn't reached.
abbrev pub IsPart : Program → Atoms → Body → List Literal → Type 0
IsPart p U (body.All literals) part =
    part ≡ (if list_any (is_inside U) literals then [] else complement (literal_of_form p (body.All literals)) ∷ [])
IsPart p U (body.AtLeast bound items) part =
    MatchBool (int_lt (weight_where (λ l. not (is_inside U l)) items) bound) (part ≡ []) ((part ≡ complement (literal_of_form p (body.AtLeast bound items)) ∷ []) ⊎ IsChosen p U bound items part)

-- what the bodies add, one after another
abbrev pub AreParts : Program → Atoms → List Body → List Literal → Type 0
AreParts p U [] lits = lits ≡ []
AreParts p U (b ∷ bodies) lits =
    (part : List Literal) × (rest : List Literal) × (lits ≡ part ++ rest) × IsPart p U b part × AreParts p U bodies rest

-- The bodies are those of the rules with a head atom in U.
abbrev pub AreSupports : Program → Atoms → List Body → Type 0
AreSupports p U bodies = (b : Body) → list_any (body_eq b) bodies ≡ supports_some p U b

-- A loop nogood of U and a. All of its literals but the first hold in the assignment.
pub record IsLoopNogood (p : Program) (x : List (Option Bool)) (U : Atoms) (a : ℕ) (n : Nogood) : Type 0 where
  pub unfounded : IsTrue (is_unfounded p x U)
  pub pure : n.base ≡ base.Pure
  pub bodies : List Body
  pub rest : List Literal
  pub are_supports : AreSupports p U bodies
  pub literals : n.lits ≡ T (var_of_atom p a) ∷ rest
  pub parts : AreParts p U bodies rest
  pub hold : IsTrue (list_all (holds_in x) rest)
  pub entailed : Entailed p n.lits
