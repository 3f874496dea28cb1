-- What nogoods say together, where each was looked at once.
use Rattle.std.specs.Prelude.{◌≡◌, ℕ, ◌<◌, Bool, if◌then◌else◌, List, Option, is_none, length, sum_by}
use Rattle.std.specs.List.{AllByRecursion}
use Rattle.asp_model.specs.declared.program.Program.{Program}
use Rattle.asp_vars.specs.Literals.{Literal}
use Rattle.asp_checker.specs.declared.nogoods.Visit.{Visit}
use Rattle.asp_checker.specs.declared.nogoods.Visit.TheVariants as visit
use Rattle.asp_checker.specs.Propagation.{Known, LeadsToConflict}
use Rattle.asp_checker.specs.Lines.{AreOf}
use Rattle.asp_checker.specs.Steps.{AreWithin, Follow, IsKnown}
use Rattle.asp_checker.specs.Looks.{IsAtFixpoint}

-- each literal's variable has a place among so many
abbrev pub AreInRange : ℕ → List (List Literal) → Type 0
AreInRange places rows = AllByRecursion (AllByRecursion (λ l. l.var < places)) rows

-- a known nogood over the program's variables
pub record IsNogoodOf (p : Program) (k : Known) (n : List Literal) : Type 0 where
  pub known : IsKnown k n
  pub of : AreOf p n

abbrev pub AreNogoodsOf : Program → Known → List (List Literal) → Type 0
AreNogoodsOf p k rows = AllByRecursion (IsNogoodOf p k) rows

-- how many places have no value
abbrev pub open_count : List (Option Bool) → ℕ
open_count x = sum_by (λ o. if is_none o then 1 else 0) x

-- The values y are those of x and more.
pub record Grows (x y : List (Option Bool)) : Type 0 where
  pub size : length y ≡ length x
  pub within : AreWithin x y
  pub fewer : open_count y < open_count x

-- whatever literals the values x follow from, y do too
abbrev pub Implies : List (List Literal) → List (Option Bool) → List (Option Bool) → Type 0
Implies rows x y = (p : Program) (k : Known) (n : List Literal) → AreNogoodsOf p k rows → Follow p k n x → Follow p k n y

-- from whatever literals the values x follow, unit propagation leads to a conflict
abbrev pub Refutes : List (List Literal) → List (Option Bool) → Type 0
Refutes rows x = (p : Program) (k : Known) (n : List Literal) → AreNogoodsOf p k rows → Follow p k n x → LeadsToConflict p k n

abbrev pub IsSwept : List (Option Bool) → List (Option Bool) → List (List Literal) → Visit → Type 0
IsSwept x y rows visit.Conflict = Refutes rows x
IsSwept x y rows visit.Implied = Implies rows x y × Grows x y
IsSwept x y rows visit.Fixpoint = (y ≡ x) × AllByRecursion (IsAtFixpoint x) rows

-- what two looks came to
abbrev pub later : Visit → Visit → Visit
later before visit.Fixpoint = before
later before visit.Conflict = visit.Conflict
later before visit.Implied = visit.Implied

-- the same, where only a front was looked at
abbrev pub IsSweptSoFar : List (Option Bool) → List (Option Bool) → List (List Literal) → List (List Literal) → Visit → Type 0
IsSweptSoFar x y rows front visit.Conflict = ⊥
IsSweptSoFar x y rows front visit.Implied = Implies rows x y × Grows x y
IsSweptSoFar x y rows front visit.Fixpoint = (y ≡ x) × AllByRecursion (IsAtFixpoint x) front
