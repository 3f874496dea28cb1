-- What a look at a nogood, a weight body or the bound came to, and which values are taken back.
use Rattle.std.specs.Prelude.{◌≡◌, ◌+◌, Bool, List, [], ◌∷◌, ◌++◌, Option, Some, None, length, slice_set}
use Rattle.std.specs.List.{AllByRecursion}
use Rattle.asp_model.specs.declared.program.Program.{Program}
use Rattle.asp_vars.specs.Literals.{Literal, value_of}
use Rattle.asp_vars.specs.Numbering.{var_count}
use Rattle.asp_checker.specs.declared.chase.Found.{Found}
use Rattle.asp_checker.specs.declared.chase.Found.TheVariants as found
use Rattle.asp_checker.specs.Propagation.{Known}
use Rattle.asp_checker.specs.Steps.{AreWithin, Follow}
use Rattle.asp_checker.specs.Blocks.{Extends, AreRefuted}

abbrev pub IsFoundBy : Program → Known → List (Option Bool) → List (Option Bool) → Found → Type 0
IsFoundBy p k x y found.Conflict = AreRefuted p k x × (y ≡ x)
IsFoundBy p k x y (found.Implied l) = Extends p k x y × (y ≡ slice_set x l.var (Some l.truth))
IsFoundBy p k x y found.Nothing = y ≡ x

-- The values follow from what is known alone.
pub record IsRoot (p : Program) (k : Known) (x : List (Option Bool)) : Type 0 where
  pub size : length x ≡ var_count p + 1
  pub follow : Follow p k [] x

-- ---- the trail
abbrev pub trail_with : List Literal → Found → List Literal
trail_with trail found.Conflict = trail
trail_with trail (found.Implied l) = trail ++ l ∷ []
trail_with trail found.Nothing = trail

-- none of the trail's variables has a value
abbrev pub AreTakenBack : List (Option Bool) → List Literal → Type 0
AreTakenBack z trail = AllByRecursion (λ l. value_of z l.var ≡ None) trail

-- Where the trail's variables lose their values, what is left of y is of x.
pub record IsTrailed (x y : List (Option Bool)) (trail : List Literal) : Type 0 where
  pub size : length y ≡ length x
  pub kept : (z : List (Option Bool)) → AreWithin z y → AreTakenBack z trail → AreWithin z x

-- what was trailed before is so after
pub record IsTrailedAlike (x y : List (Option Bool)) (trail more : List Literal) : Type 0 where
  pub alike : (w : List (Option Bool)) → IsTrailed w x trail → IsTrailed w y more
