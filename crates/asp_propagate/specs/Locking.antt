-- The slots where the reasons on a trail are locked.
use Rattle.std.specs.Prelude.{ℕ, Bool, List, Option, Some, None, slice_set, fold}
use Rattle.asp_trail.specs.declared.trail.Entry.{Entry}
use Rattle.asp_store.specs.declared.stored_nogood.StoredNogood.{StoredNogood}
use Rattle.asp_store.specs.Keeping.{kept_at, with_lock}

-- the slots with that of a reason locked or not
abbrev pub lock_reason : Bool → List (Option StoredNogood) → Option ℕ → List (Option StoredNogood)
lock_reason b slots None = slots
lock_reason b slots (Some id) = slice_set slots id (with_lock b (kept_at slots id))

-- those of the reasons of all entries
abbrev pub lock_all : Bool → List Entry → List (Option StoredNogood) → List (Option StoredNogood)
lock_all b entries slots = fold (λ xs e. lock_reason b xs e.reason) slots entries
