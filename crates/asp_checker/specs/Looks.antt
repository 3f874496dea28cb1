-- What a nogood says under values.
use Rattle.std.specs.Prelude.{◌≡◌, ℕ, Bool, true, false, not, List, Option, Some, None, slice_set}
use Rattle.std.specs.List.{list_all}
use Rattle.asp_vars.specs.Literals.{Literal, value_of, holds_in, has_literal}
use Rattle.asp_checker.specs.declared.nogoods.Look.{Look}
use Rattle.asp_checker.specs.declared.nogoods.Look.TheVariants as look
use Rattle.asp_checker.specs.declared.nogoods.Visit.{Visit}
use Rattle.asp_checker.specs.declared.nogoods.Visit.TheVariants as visit
use Rattle.asp_checker.specs.Steps.{is_unit}

-- The values don't hit the nogood, nor do they with one value more.
pub record IsAtFixpoint (x : List (Option Bool)) (n : List Literal) : Type 0 where
  pub now : list_all (holds_in x) n ≡ false
  pub one_more : (v : ℕ) (b : Bool) → value_of x v ≡ None → list_all (holds_in (slice_set x v (Some b))) n ≡ false

-- All of the nogood's literals hold but this one, which has no value.
pub record IsUnit (x : List (Option Bool)) (n : List Literal) (l : Literal) : Type 0 where
  pub others : is_unit x n l ≡ true
  pub no_value : value_of x l.var ≡ None
  pub among : has_literal n l ≡ true

-- what the nogood says
abbrev pub IsSeen : List (Option Bool) → List Literal → Look → Type 0
IsSeen x n look.Fixpoint = IsAtFixpoint x n
IsSeen x n (look.Unit l) = IsUnit x n l
IsSeen x n look.Violated = list_all (holds_in x) n ≡ true

-- what became of the values where a nogood was looked at
abbrev pub IsVisited : List (Option Bool) → List (Option Bool) → List Literal → Visit → Type 0
IsVisited x y n visit.Conflict = (list_all (holds_in x) n ≡ true) × (y ≡ x)
IsVisited x y n visit.Implied = (l : Literal) × IsUnit x n l × (y ≡ slice_set x l.var (Some (not l.truth)))
IsVisited x y n visit.Fixpoint = IsAtFixpoint x n × (y ≡ x)
