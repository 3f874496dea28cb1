-- What the propagators of a program give, and when all of them are silent.
use Rattle.std.specs.Prelude.{◌≡◌, ◌⊎◌, ℕ, ◌+◌, ◌^◌, ◌<◌, true, Bool, List, Option, ℤ}
use Rattle.asp_model.specs.declared.program.Program.{Program}
use Rattle.asp_model.specs.Sets.{Atoms}
use Rattle.asp_vars.specs.Entailment.{Entailed}
use Rattle.asp_vars.specs.Literals.{Literal}
use Rattle.asp_vars.specs.declared.nogood.Base.TheVariants as base
use Rattle.asp_vars.specs.declared.nogood.Nogood.{Nogood}
use Rattle.asp_loop.specs.LoopNogoods.{IsLoopNogood}
use Rattle.asp_trail.specs.declared.trail.Entry.{Entry}
use Rattle.asp_weight.specs.Explained.{IsExcluded, IsExplained as IsWeighed}
use Rattle.asp_weight.specs.Silence.{is_silent as are_weights_silent}
use Rattle.asp_bound.specs.Explained.{IsTooDear, IsExplained as IsBounded}
use Rattle.asp_bound.specs.Silence.{is_silent as is_bound_silent}
use Rattle.asp_source.specs.Loops.{IsUnfoundedLoop}

-- It is a loop nogood of an unfounded set under some values.
pub record IsOfLoop (p : Program) (n : Nogood) : Type 0 where
  pub values : List (Option Bool)
  pub set : Atoms
  pub atom : ℕ
  pub loop : IsUnfoundedLoop p values set
  pub shape : IsLoopNogood p values set atom n
  pub base : n.base ≡ base.Pure
  pub entailed : Entailed p n.lits

abbrev pub gives : Program → Option (List ℤ) → Nogood → Type 0
gives p bound n = IsExcluded p n ⊎ (IsTooDear p bound n ⊎ IsOfLoop p n)

-- A literal follows from entries by the definition of a weight body, or by the bound, whose name is no weight body's.
abbrev pub explains : Program → Option (List ℤ) → List Entry → Literal → ℕ → Type 0
explains p bound entries l name = (IsWeighed p entries l name × (name + 1 < 2 ^ 31)) ⊎ (IsBounded p bound entries l × (name + 1 ≡ 2 ^ 31))

-- what is written when a reason is asked for
abbrev pub late : Program → Option (List ℤ) → Nogood → Type 0
late p bound n = IsExcluded p n ⊎ IsTooDear p bound n

-- The weight bodies and the bound imply nothing, and no loop is unfounded.
pub record AreSilent (p : Program) (bound : Option (List ℤ)) (a : List (Option Bool)) : Type 0 where
  pub weights : are_weights_silent p a ≡ true
  pub below : is_bound_silent p bound a ≡ true
  pub founded : (U : Atoms) → IsUnfoundedLoop p a U → ⊥
