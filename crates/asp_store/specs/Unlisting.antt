-- How a nogood goes from the lists that tell it.
use Rattle.std.specs.Prelude.{◌≡◌, ◌≢◌, ℕ, true, List, Option, Some, IsTrue, length}
use Rattle.asp_vars.specs.Literals.{Literal, has_literal}
use Rattle.asp_vars.specs.Codes.{code_of}
use Rattle.asp_vars.specs.declared.nogood.Nogood.{Nogood}
use Rattle.asp_store.specs.declared.stored_nogood.StoredNogood.{StoredNogood}
use Rattle.asp_store.specs.Marks.{Watch}
use Rattle.asp_store.specs.Keeping.{kept_at, nogood_at, is_lasting}
use Rattle.asp_store.specs.Lists.{place}
use Rattle.asp_store.specs.Sounding.{IsListed}

-- No watch came, and those of other numbers stay.
pub record Keeps (old new : List (List Watch)) (id : ℕ) : Type 0 where
  pub len : length new ≡ length old
  pub from : (c i : ℕ) (x : Watch) → place new c i ≡ Some x → (j : ℕ) × (place old c j ≡ Some x)
  pub stay : (l : Literal) (j : ℕ) (n : List Literal) → j ≢ id → IsListed old l 0 j n → IsListed new l 0 j n

-- The number stands in no list of these literals.
abbrev pub IsUnlisted : List (List Watch) → List Literal → ℕ → Type 0
IsUnlisted lists n id = (l : Literal) (i : ℕ) (x : Watch) → IsTrue (has_literal n l) → place lists (code_of l) i ≡ Some x → x.id ≢ id

-- A nogood that places tell stands in no list any more.
pub record Unlists (slots : List (Option StoredNogood)) (old new : List (List Watch)) (id : ℕ) : Type 0 where
  pub keeps : Keeps old new id
  pub none : (n : Nogood) → is_lasting (kept_at slots id) ≡ true → nogood_at slots id ≡ Some n → IsUnlisted new n.lits id
