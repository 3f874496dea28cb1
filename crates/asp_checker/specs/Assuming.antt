-- Literals that are made to hold.
use Rattle.std.specs.Prelude.{◌≡◌, Bool, true, false, List, Option, Some, length, slice_set}
use Rattle.std.specs.List.{list_all}
use Rattle.asp_model.specs.declared.program.Program.{Program}
use Rattle.asp_vars.specs.Literals.{Literal, complement, holds_in}
use Rattle.asp_checker.specs.Propagation.{Known, LeadsToConflict}
use Rattle.asp_checker.specs.Steps.{Follow}

-- what became of the values where a literal was assumed
abbrev pub IsAssumed : List (Option Bool) → List (Option Bool) → Literal → Bool → Type 0
IsAssumed x y l true = (holds_in x (complement l) ≡ false) × (y ≡ slice_set x l.var (Some l.truth))
IsAssumed x y l false = holds_in x (complement l) ≡ true

-- The first of a line's literals hold, and what was added follows from all of them.
pub record AreHeld (x y : List (Option Bool)) (first n : List Literal) : Type 0 where
  pub size : length y ≡ length x
  pub hold : list_all (holds_in y) first ≡ true
  pub follow : (p : Program) (k : Known) → Follow p k n x → Follow p k n y

-- what became of the values where the first of a line's literals were assumed; two of them are contrary where one fails
abbrev pub AreAssumed : List (Option Bool) → List (Option Bool) → List Literal → List Literal → Bool → Type 0
AreAssumed x y first n true = AreHeld x y first n
AreAssumed x y first n false = (p : Program) (k : Known) → Follow p k n x → LeadsToConflict p k n
