-- What the look at those apart keeps.
use Rattle.std.specs.Prelude.{◌≡◌, ℕ, ◌+◌, ◌<◌, ◌≤◌, List, Option, Some, None, slice_get}
use Rattle.asp_vars.specs.declared.nogood.Nogood.{Nogood}
use Rattle.asp_trail.specs.Trails.{Trailed}
use Rattle.asp_store.specs.declared.stored_nogood.StoredNogood.{StoredNogood}
use Rattle.asp_store.specs.declared.watches.Watches.{Watches}
use Rattle.asp_store.specs.declared.front.Step.{Step}
use Rattle.asp_store.specs.declared.front.Step.TheVariants as step
use Rattle.asp_store.specs.Keeping.{nogood_at}
use Rattle.asp_store.specs.Pairs.{pair_at}
use Rattle.asp_store.specs.Sounding.{IsSound, AreSettledFrom}
use Rattle.asp_store.specs.Walking.{IsViolated}

-- Those before this place were looked at.
pub record IsLooking (slots : List (Option StoredNogood)) (w : Watches) (t : Trailed) (i : ℕ) : Type 0 where
  pub sound : IsSound slots w t
  pub settled : AreSettledFrom slots w t.entries i
  pub begun : w.apart.first ≤ i

-- At this place stands this number, whose nogood isn't watched.
pub record IsWaiting (slots : List (Option StoredNogood)) (w : Watches) (t : Trailed) (i id : ℕ) : Type 0 where
  pub looking : IsLooking slots w t i
  pub within : i < w.apart.last
  pub at : slice_get w.apart.items i ≡ Some id
  pub pair : pair_at w.rows id ≡ None
  pub kept : (n : Nogood) × (nogood_at slots id ≡ Some n)

-- No kept nogood that isn't watched has the number at this place.
abbrev pub HasNone : List (Option StoredNogood) → Watches → ℕ → Type 0
HasNone slots w i = (id : ℕ) (n : Nogood) → slice_get w.apart.items i ≡ Some id → nogood_at slots id ≡ Some n → pair_at w.rows id ≡ None → ⊥

-- A look goes on to the next place, or the place is gone, or a nogood is violated.
abbrev pub Looks : List (Option StoredNogood) → Watches → Watches → Trailed → ℕ → Step → Type 0
Looks slots old new t i step.Stays = IsLooking slots new t (i + 1) × (new.apart.last ≡ old.apart.last)
Looks slots old new t i step.Goes = IsLooking slots new t i × (new.apart.last + 1 ≡ old.apart.last)
Looks slots old new t i (step.Violated id) = IsViolated t.vars slots t.entries id
