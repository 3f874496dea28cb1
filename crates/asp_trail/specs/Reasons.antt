-- Why an entry's literal holds.
use Rattle.std.specs.Prelude.{◌≡◌, ◌≢◌, ℕ, ◌^◌, ◌<◌, List, length, Option, Some, IsTrue, slice_index_or}
use Rattle.asp_vars.specs.Literals.{Literal, complement, has_literal}
use Rattle.asp_vars.specs.declared.nogood.Nogood.{Nogood}
use Rattle.asp_trail.specs.declared.trail.Entry.{Entry}

-- The literal is that of the i-th entry, whose level is b.
pub record Stands (entries : List Entry) (l : Literal) (i b : ℕ) : Type 0 where
  pub within : i < length entries
  pub lit : (d : Entry) → (slice_index_or entries i d).lit ≡ l
  pub level : (d : Entry) → (slice_index_or entries i d).level ≡ b

-- The nogood has the complement of the i-th entry's literal, and otherwise literals of earlier entries.
pub record IsReason (entries : List Entry) (i : ℕ) (l : Literal) (n : List Literal) : Type 0 where
  pub has : IsTrue (has_literal n (complement l))
  pub others : (k : Literal) → IsTrue (has_literal n k) → k ≢ complement l → (j : ℕ) × (b : ℕ) × (j < i) × Stands entries k j b

-- Each entry that was implied by a number below 2^31 names a nogood that is kept, which is its reason.
abbrev pub AreReasoned : (ℕ → Option Nogood) → List Entry → Type 0
AreReasoned kept entries = (i : ℕ) (d : Entry) (id : ℕ) → i < length entries → id < 2 ^ 31 → (slice_index_or entries i d).reason ≡ Some id →
    (n : Nogood) × (kept id ≡ Some n) × IsReason entries i (slice_index_or entries i d).lit n.lits

-- The reason of each entry that was implied may be asked for.
abbrev pub AreAsked : (Literal → ℕ → Type 0) → List Entry → Type 0
AreAsked asks entries = (i : ℕ) (d : Entry) (id : ℕ) → i < length entries → (slice_index_or entries i d).reason ≡ Some id → asks (slice_index_or entries i d).lit id

-- What is said to be the reason of an entry is its reason.
abbrev pub AreReasons : (Literal → ℕ → Nogood → Type 0) → List Entry → Type 0
AreReasons says entries = (i : ℕ) (d : Entry) (id : ℕ) (n : Nogood) → i < length entries → (slice_index_or entries i d).reason ≡ Some id →
    says (slice_index_or entries i d).lit id n → IsReason entries i (slice_index_or entries i d).lit n.lits

-- Each entry that was implied has a reason that passes.
abbrev pub AreImpliedBy : (Nogood → Type 0) → List Entry → Type 0
AreImpliedBy passes entries = (i : ℕ) (d : Entry) (id : ℕ) → i < length entries → (slice_index_or entries i d).reason ≡ Some id →
    (n : Nogood) × passes n × IsReason entries i (slice_index_or entries i d).lit n.lits
