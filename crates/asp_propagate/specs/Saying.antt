-- What a propagator says that isn't silent.
use Rattle.std.specs.Prelude.{◌≡◌, ℕ, ◌^◌, ◌<◌, false, List, None}
use Rattle.std.specs.List.{All}
use Rattle.asp_vars.specs.Literals.{Literal, value_of}
use Rattle.asp_vars.specs.declared.nogood.Nogood.{Nogood}
use Rattle.asp_trail.specs.declared.trail.Entry.{Entry}
use Rattle.asp_trail.specs.declared.said.Said.{Said}
use Rattle.asp_trail.specs.declared.said.Said.TheVariants as said
use Rattle.asp_trail.specs.Entries.{assignment}
use Rattle.asp_trail.specs.Trails.{IsVar}
use Rattle.asp_trail.specs.Fixpoint.{is_at_fixpoint}

-- A nogood that it may give, which is unit or violated.
pub record IsWanted (gives : Nogood → Type 0) (vars : ℕ) (entries : List Entry) (n : Nogood) : Type 0 where
  pub passes : gives n
  pub within : All (λ l. IsVar vars l.var) n.lits
  pub wanted : is_at_fixpoint (assignment vars entries) n.lits ≡ false

-- A literal without a value, which follows from the entries.
pub record IsFollowing (explains : List Entry → Literal → ℕ → Type 0) (vars : ℕ) (entries : List Entry) (l : Literal) (name : ℕ) : Type 0 where
  pub var : IsVar vars l.var
  pub none : value_of (assignment vars entries) l.var ≡ None
  pub small : name < 2 ^ 31
  pub explained : explains entries l name

abbrev pub IsToSay : (Nogood → Type 0) → (List Entry → Literal → ℕ → Type 0) → ℕ → List Entry → Said → Type 0
IsToSay gives explains vars entries (said.Nogood n) = IsWanted gives vars entries n
IsToSay gives explains vars entries (said.Implied i) = IsFollowing explains vars entries i.lit i.name
