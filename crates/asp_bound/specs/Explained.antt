-- That a literal follows from entries by the bound.
use Rattle.std.specs.Prelude.{◌≡◌, ℕ, ◌+◌, ◌^◌, ◌<◌, Bool, true, false, List, length, Option, Some, None, slice_set, slice_index_or, ℤ}
use Rattle.asp_model.specs.declared.program.Program.{Program}
use Rattle.asp_vars.specs.Literals.{Literal, complement, value_of, holds_in}
use Rattle.asp_vars.specs.Numbering.{var_count}
use Rattle.asp_vars.specs.Entailment.{Below}
use Rattle.asp_vars.specs.declared.nogood.Base.TheVariants as base
use Rattle.asp_vars.specs.declared.nogood.Nogood.{Nogood}
use Rattle.asp_trail.specs.declared.trail.Entry.{Entry}
use Rattle.asp_trail.specs.declared.said.Said.{Said}
use Rattle.asp_trail.specs.declared.said.Said.TheVariants as said
use Rattle.asp_trail.specs.Entries.{assignment}
use Rattle.asp_trail.specs.Trails.{IsVar}
use Rattle.asp_bound.specs.Bounded.{Bounded, IsGiven}
use Rattle.asp_bound.specs.Definition.{ExcludesBelow}
use Rattle.asp_bound.specs.Silence.{is_below}

-- The literal has no value, and with its complement's the optimistic cost isn't below the bound that stands.
pub record IsExplained (p : Program) (bound : Option (List ℤ)) (entries : List Entry) (l : Literal) : Type 0 where
  pub cost : List ℤ
  pub stands : bound ≡ Some cost
  pub var : IsVar (var_count p) l.var
  pub none : value_of (assignment (var_count p) entries) l.var ≡ None
  pub dear : is_below p (slice_set (assignment (var_count p) entries) l.var (Some (complement l).truth)) cost ≡ false

-- The costs below the bound that stands exclude it.
pub record IsTooDear (p : Program) (bound : Option (List ℤ)) (n : Nogood) : Type 0 where
  pub cost : List ℤ
  pub stands : bound ≡ Some cost
  pub excluded : ExcludesBelow p cost n.lits
  pub base : n.base ≡ base.Below cost
  pub below : Below p cost n.lits

-- Each of the first entries was told.
abbrev pub AreTold : List (Option Bool) → ℕ → List Entry → Type 0
AreTold values n entries = (i : ℕ) (d : Entry) → i < n → i < length entries → holds_in values (slice_index_or entries i d).lit ≡ true

-- A nogood by the bound that isn't at fixpoint, or a literal without a value that follows, by the name that no weight body has.
abbrev pub IsSaid : Bounded → List Entry → Said → Type 0
IsSaid s entries (said.Nogood n) = IsGiven s n
IsSaid s entries (said.Implied i) = IsExplained s.told.program s.bound entries i.lit × (i.name + 1 ≡ 2 ^ 31)
