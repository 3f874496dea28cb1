-- Two threads that add to one log.
use Rattle.std.specs.Prelude.{◌≡◌, ℕ, List, [], ◌∷◌, map, Option}
use Rattle.std.specs.Option.{IfSome}
use mathlib.Core.List.{Sublist}
use Rattle.asp_vars.specs.declared.nogood.Base.TheVariants as base
use Rattle.asp_vars.specs.declared.nogood.Nogood.{Nogood}
use Rattle.asp_vars.specs.Literals.{T, F}
use Rattle.asp_vault.specs.Makers.{placed}
use Rattle.asp_core.specs.Events.{IsVariable}
use Rattle.asp_log.specs.declared.scope.Scope.{Scope}

-- a nogood that nothing hits: the variable is true, and it is false
abbrev pub clash : ℕ → Nogood
clash v = record { lits = T v ∷ F v ∷ []; base = base.Pure }

-- what was added, without its positions
abbrev pub added : List (ℕ × Nogood) → List Nogood
added own = map (λ p. p.1) own

-- These nogoods stand among the entries, in this order.
abbrev pub StandInOrder : List Nogood → List Nogood → Type 0
StandInOrder nogoods entries = (own : List (ℕ × Nogood)) × (added own ≡ nogoods) × Sublist own (placed 0 entries)

-- The log's program has the variable.
abbrev pub HasVar : Option Scope → ℕ → Type 0
HasVar about v = IfSome about (λ s. IsVariable s.program v)
