-- How an answer is kept from being found again.
use Rattle.std.specs.Prelude.{◌≡◌, ◌≢◌, ℕ, ◌-◌, ◌⊎◌, false, List, length, take, Option, Some}
use Rattle.std.specs.List.{All}
use Rattle.asp_model.specs.declared.program.Program.{Program}
use Rattle.asp_model.specs.Sets.{Atoms}
use Rattle.asp_vars.specs.Literals.{Literal}
use Rattle.asp_vars.specs.Resolution.{IsWithin}
use Rattle.asp_vars.specs.declared.nogood.Nogood.{Nogood}
use Rattle.asp_trail.specs.declared.trail.Entry.{Entry}
use Rattle.asp_trail.specs.Entries.{cut}
use Rattle.asp_store.specs.declared.stored_nogood.StoredNogood.{StoredNogood}
use Rattle.asp_store.specs.declared.stored_nogood.Kind.TheVariants as kind
use Rattle.asp_store.specs.Keeping.{kept_at, nogood_at}
use Rattle.asp_propagate.specs.Propagating.{IsUnnamed}
use Rattle.asp_search_laws.specs.Keeping.{IsExcluded, AreBlocking}
use Rattle.asp_state.specs.SearchStates.{SearchView}

-- The nogood has all of these literals, and no entry names it.
pub record IsRedundant (slots : List (Option StoredNogood)) (entries : List Entry) (lits : List Literal) (id : ℕ) : Type 0 where
  pub within : (n : Nogood) → nogood_at slots id ≡ Some n → IsWithin lits n.lits
  pub unnamed : IsUnnamed entries id

-- a blocking nogood as it is kept: forever
abbrev pub kept_blocking : Nogood → Option StoredNogood
kept_blocking n = Some (record { nogood = n; kind = kind.Forever; locked = false })

-- Blocking nogoods were dropped, but not the newest, by which each answer stays blocked.
pub record Drops (newest : Nogood) (id : ℕ) (old new : List (Option StoredNogood)) (blocking : List ℕ) : Type 0 where
  pub none : (j : ℕ) (n : Nogood) → nogood_at new j ≡ Some n → nogood_at old j ≡ Some n
  pub stands : kept_at new id ≡ kept_blocking newest
  pub blocked : (p : Program) (S : Atoms) → IsExcluded p old S → IsExcluded p new S
  pub blocking_stand : AreBlocking new blocking
  pub apart : All (λ i. i ≢ id) blocking

-- The newest blocking nogood is kept under this number, and the search is back one level. Others may have gone, whose answers stay blocked.
pub record Blocks (newest : Nogood) (old new : SearchView) (id : ℕ) (blocking : List ℕ) : Type 0 where
  pub same : new ≡ record old {
    entries = cut (length old.decisions - 1) old.entries;
    decisions = take (length old.decisions - 1) old.decisions;
    slots = new.slots;
    ranking = new.ranking;
  }
  pub nogoods : (j : ℕ) (n : Nogood) → nogood_at new.slots j ≡ Some n → (nogood_at old.slots j ≡ Some n) ⊎ (n ≡ newest)
  pub stands : kept_at new.slots id ≡ kept_blocking newest
  pub blocked : (p : Program) (S : Atoms) → IsExcluded p old.slots S → IsExcluded p new.slots S
  pub blocking_stand : AreBlocking new.slots blocking

-- ---- where consequences are sought
-- Blocking nogoods were dropped, but not the one under this number.
pub record Spares (id : ℕ) (old new : List (Option StoredNogood)) (blocking : List ℕ) : Type 0 where
  pub none : (j : ℕ) (n : Nogood) → nogood_at new j ≡ Some n → nogood_at old j ≡ Some n
  pub stands : kept_at new id ≡ kept_at old id
  pub blocking_stand : AreBlocking new blocking
  pub apart : All (λ i. i ≢ id) blocking

-- The nogood is kept, at most the decisions were taken back, and others may have gone.
pub record Covers (newest : Nogood) (old new : SearchView) (blocking : List ℕ) : Type 0 where
  pub same : new ≡ record old { entries = new.entries; decisions = new.decisions; slots = new.slots; ranking = new.ranking }
  pub nogoods : (j : ℕ) (n : Nogood) → nogood_at new.slots j ≡ Some n → (nogood_at old.slots j ≡ Some n) ⊎ (n ≡ newest)
  pub id : ℕ
  pub stands : kept_at new.slots id ≡ kept_blocking newest
  pub blocking_stand : AreBlocking new.slots blocking
