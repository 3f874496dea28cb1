-- What the bodies of rules for a set of atoms add, one by one.
use Rattle.std.specs.Prelude.{◌≡◌, ℕ, ◌-◌, Bool, true, false, List, [], ◌∷◌, ◌++◌, map, Option, MatchBool}
use Rattle.std.specs.List.{list_any, list_all, AllByRecursion}
use Rattle.asp_model.specs.declared.program.Body.{Body}
use Rattle.asp_model.specs.declared.program.Program.{Program}
use Rattle.asp_model.specs.Sets.{Atoms}
use Rattle.asp_model.specs.Models.{atoms_of}
use Rattle.asp_vars.specs.Literals.{Literal, holds_in}
use Rattle.asp_vars.specs.Numbering.{body_eq, nth_body}
use Rattle.asp_vars.specs.Unfounded.{is_excused}
use Rattle.asp_loop.specs.LoopNogoods.{IsPart, AreParts}
use Rattle.asp_loop.specs.Weighing.{AreVarsOf}
use Rattle.std.specs.Prelude.{length}

-- A literal that holds is added, another isn't.
abbrev pub AddsFalse : List (Option Bool) → Literal → List Literal → List Literal → Bool → Type 0
AddsFalse x l old new added =
    MatchBool added ((holds_in x l ≡ true) × (new ≡ old ++ l ∷ [])) ((holds_in x l ≡ false) × (new ≡ old))

-- The body is excused, and its part is added, of literals that hold.
pub record Adds (p : Program) (x : List (Option Bool)) (U : Atoms) (b : Body) (old new : List Literal) : Type 0 where
  pub part : List Literal
  pub is : new ≡ old ++ part
  pub shape : IsPart p U b part
  pub hold : list_all (holds_in x) part ≡ true
  pub excused : is_excused p x U b ≡ true

-- For the set of atoms with these variables: its part was added, or nothing excuses the body.
abbrev pub IsAdded : Program → List (Option Bool) → Atoms → Body → List Literal → List Literal → Bool → Type 0
IsAdded p x vars b old new added =
    (U : Atoms) → AreVarsOf p U vars → MatchBool added (Adds p x U b old new) (is_excused p x U b ≡ false)

-- the body with this number
abbrev pub form_of : Program → ℕ → Body
form_of p v = nth_body p (v - length (atoms_of p) - 1)

pub record AddsAll (p : Program) (x : List (Option Bool)) (U : Atoms) (bodies : List Body) (old new : List Literal) : Type 0 where
  pub rest : List Literal
  pub is : new ≡ old ++ rest
  pub shapes : AreParts p U bodies rest
  pub hold : list_all (holds_in x) rest ≡ true
  pub excused : AllByRecursion (λ b. is_excused p x U b ≡ true) bodies

-- One of the bodies is excused by nothing.
pub record HasFirm (p : Program) (x : List (Option Bool)) (U : Atoms) (bodies : List Body) : Type 0 where
  pub form : Body
  pub among : list_any (body_eq form) bodies ≡ true
  pub firm : is_excused p x U form ≡ false

abbrev pub AreAdded : Program → List (Option Bool) → Atoms → List ℕ → List Literal → List Literal → Bool → Type 0
AreAdded p x vars bodies old new added =
    (U : Atoms) → AreVarsOf p U vars → MatchBool added (AddsAll p x U (map (form_of p) bodies) old new) (HasFirm p x U (map (form_of p) bodies))
