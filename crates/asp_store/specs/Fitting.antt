-- Watched literals, over a trail's entries.
use Rattle.std.specs.Prelude.{◌≡◌, ◌≢◌, ℕ, ◌<◌, ◌≤◌, ◌⊎◌, ◌++◌, List, length, Option, Some, None, IsTrue}
use Rattle.std.specs.List.{All}
use Rattle.asp_vars.specs.Literals.{Literal, complement, has_literal}
use Rattle.asp_vars.specs.declared.nogood.Nogood.{Nogood}
use Rattle.asp_trail.specs.declared.trail.Entry.{Entry}
use Rattle.asp_trail.specs.Entries.{level}
use Rattle.asp_trail.specs.Trails.{Trailed, IsVar}
use Rattle.asp_trail.specs.Reasons.{Stands, AreReasoned}
use Rattle.asp_store.specs.declared.stored_nogood.StoredNogood.{StoredNogood}
use Rattle.asp_store.specs.declared.watch.Pair.{Pair}
use Rattle.asp_store.specs.Keeping.{nogood_at}
use Rattle.asp_store.specs.Pairs.{pair_at, IsOneOf}
use Rattle.asp_store.specs.Parted.{Parted, IsFrom}

-- The literal is false, at a level not above b.
abbrev pub IsFalseBy : List Entry → Literal → ℕ → Type 0
IsFalseBy entries l b = (i : ℕ) × (c : ℕ) × (c ≤ b) × Stands entries (complement l) i c

-- A literal of the nogood is false, at a level not above b.
abbrev pub HasFalse : List Entry → List Literal → ℕ → Type 0
HasFalse entries n b = (l : Literal) × IsTrue (has_literal n l) × IsFalseBy entries l b

-- Where the literal is true within the entries seen, the nogood has a literal that is false at a level not above that one's.
abbrev pub Watches : List Entry → ℕ → List Literal → Literal → Type 0
Watches entries seen n w = (i b : ℕ) → i < seen → Stands entries w i b → HasFalse entries n b

-- The two are different literals of the nogood, and watch it.
pub record IsWatched (n : List Literal) (p : Pair) (entries : List Entry) (seen : ℕ) : Type 0 where
  pub has : (l : Literal) → IsOneOf p l → IsTrue (has_literal n l)
  pub differ : p.first ≢ p.second
  pub watches : (l : Literal) → IsOneOf p l → Watches entries seen n l

-- Each kept nogood is watched, or is to be looked at whole, or has a literal that is false at level 0.
pub record AreFit (slots : List (Option StoredNogood)) (rows : List (List Literal)) (apart : Parted) (t : Trailed) : Type 0 where
  pub watched : (id : ℕ) (n : Nogood) (p : Pair) → nogood_at slots id ≡ Some n → pair_at rows id ≡ Some p → IsWatched n.lits p t.entries t.seen
  pub unwatched : (id : ℕ) (n : Nogood) → nogood_at slots id ≡ Some n → pair_at rows id ≡ None → IsFrom apart apart.first id ⊎ HasFalse t.entries n.lits 0

-- Each entry that was implied by a number below 2^31 names a nogood that is kept, which is its reason.
abbrev pub HaveReasons : List (Option StoredNogood) → List Entry → Type 0
HaveReasons slots entries = AreReasoned (nogood_at slots) entries

-- All literals are of variables 1 to vars.
abbrev pub AreSmall : ℕ → List (Option StoredNogood) → Type 0
AreSmall vars slots = (id : ℕ) (n : Nogood) → nogood_at slots id ≡ Some n → All (λ k. IsVar vars k.var) n.lits

-- The entry was implied, at this level.
pub record IsImpliedAt (b : ℕ) (e : Entry) : Type 0 where
  pub level : e.level ≡ b
  pub implied : (id : ℕ) × (e.reason ≡ Some id)

-- The entry was implied at this level, by a number below n.
pub record IsKeptAt (n b : ℕ) (e : Entry) : Type 0 where
  pub level : e.level ≡ b
  pub implied : (id : ℕ) × (e.reason ≡ Some id) × (id < n)

-- Entries may be added, each of them implied at the level that stands, by a nogood that is kept.
abbrev pub Extends : List (Option StoredNogood) → List Entry → List Entry → Type 0
Extends slots old new = (fs : List Entry) × (new ≡ old ++ fs) × (HaveReasons slots old → HaveReasons slots new) × All (IsKeptAt (length slots) (level old)) fs
