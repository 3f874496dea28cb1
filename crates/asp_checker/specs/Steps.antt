-- What a checker may add to values, one after another.
use Rattle.std.specs.Prelude.{◌≡◌, ℕ, Bool, ◌||◌, List, Option, Some, IsTrue}
use Rattle.std.specs.List.{list_all, list_any}
use Rattle.asp_model.specs.declared.program.Program.{Program}
use Rattle.asp_vars.specs.Literals.{Literal, literal_eq, value_of, holds_in}
use Rattle.asp_checker.specs.Propagation.{Known, IsPropagated}

-- Each value of x is one of y.
abbrev pub AreWithin : List (Option Bool) → List (Option Bool) → Type 0
AreWithin x y = (v : ℕ) (b : Bool) → value_of x v ≡ Some b → value_of y v ≡ Some b

-- The values follow from the literals: they are within all propagated values in which the literals hold.
abbrev pub Follow : Program → Known → List Literal → List (Option Bool) → Type 0
Follow p k n x = (y : List (Option Bool)) → IsPropagated p k y → IsTrue (list_all (holds_in y) n) → AreWithin x y

-- The literal holds in all of them.
abbrev pub Forced : Program → Known → List (Option Bool) → Literal → Type 0
Forced p k x l = (y : List (Option Bool)) → IsPropagated p k y → AreWithin x y → IsTrue (holds_in y l)

-- The nogood is among those known: it passes each test that none of them fails.
abbrev pub IsKnown : Known → List Literal → Type 0
IsKnown k n = (q : List Literal → Bool) → IsTrue (q n) → IsTrue (list_any q k.nogoods)

-- All literals of the nogood hold but l.
abbrev pub is_unit : List (Option Bool) → List Literal → Literal → Bool
is_unit x n l = list_all (λ m. literal_eq m l || holds_in x m) n
