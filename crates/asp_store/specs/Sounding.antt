-- What is kept of lists, rows and numbers apart, and how they fit a trail.
use Rattle.std.specs.Prelude.{◌≡◌, ℕ, ◌+◌, ◌*◌, ◌^◌, ◌≤◌, ◌⊎◌, true, List, [], ◌∷◌, length, Option, Some, None, IsTrue}
use Rattle.asp_vars.specs.Literals.{Literal, has_literal}
use Rattle.asp_vars.specs.Codes.{code_of}
use Rattle.asp_vars.specs.declared.nogood.Nogood.{Nogood}
use Rattle.asp_trail.specs.declared.trail.Entry.{Entry}
use Rattle.asp_trail.specs.Trails.{Trailed}
use Rattle.asp_store.specs.declared.stored_nogood.StoredNogood.{StoredNogood}
use Rattle.asp_store.specs.Marks.{Watch}
use Rattle.asp_store.specs.declared.watch.Pair.{Pair}
use Rattle.asp_store.specs.declared.watches.Watches.{Watches}
use Rattle.asp_arena.specs.Rows.{row_at}
use Rattle.asp_store.specs.Keeping.{kept_at, nogood_at, is_lasting}
use Rattle.asp_store.specs.Lists.{place}
use Rattle.asp_store.specs.Pairs.{pair_at, IsOneOf}
use Rattle.asp_store.specs.Parted.{IsApart, IsFrom}
use Rattle.asp_store.specs.Looking.{HaveSame}
use Rattle.asp_store.specs.Fitting.{HasFalse, AreFit, AreSmall}

-- In the literal's list, at the i-th place or behind it, stands this number beside a literal of the nogood.
pub record IsListed (lists : List (List Watch)) (l : Literal) (i id : ℕ) (n : List Literal) : Type 0 where
  pub at : ℕ
  pub watch : Watch
  pub from : i ≤ at
  pub stands : place lists (code_of l) at ≡ Some watch
  pub id_is : watch.id ≡ id
  pub has : IsTrue (has_literal n watch.blocker)

-- The nogood under the number has the list's literal and the blocker, and no other one, and goes only where it is removed by its number.
pub record IsShort (slots : List (Option StoredNogood)) (c : ℕ) (x : Watch) : Type 0 where
  pub lasting : is_lasting (kept_at slots x.id) ≡ true
  pub lit : Literal
  pub code : code_of lit ≡ c
  pub nogood : Nogood
  pub kept : nogood_at slots x.id ≡ Some nogood
  pub same : HaveSame nogood.lits (lit ∷ x.blocker ∷ [])

-- What stands in the list of the literal of this code.
pub record IsPlace (vars : ℕ) (slots : List (Option StoredNogood)) (c : ℕ) (x : Watch) : Type 0 where
  pub small : x.blocker.var ≤ vars
  pub short : IsTrue x.is_short → IsShort slots c x

-- Each kept nogood that is watched stands in the lists of its two literals, and each other one among those apart. A row is of a
-- kept nogood, and has its literals.
pub record IsNet (vars : ℕ) (slots : List (Option StoredNogood)) (w : Watches) : Type 0 where
  pub sized : length w.lists ≡ 2 * vars + 2
  pub paired : length w.rows ≡ length slots
  pub small : AreSmall vars slots
  pub numbered : length slots ≤ 2 ^ 31
  pub places : (c i : ℕ) (x : Watch) → place w.lists c i ≡ Some x → IsPlace vars slots c x
  pub kept : (id : ℕ) (p : Pair) → pair_at w.rows id ≡ Some p → (n : Nogood) × (nogood_at slots id ≡ Some n) × HaveSame n.lits (row_at w.rows id)
  pub watched : (id : ℕ) (p : Pair) (l : Literal) → pair_at w.rows id ≡ Some p → IsOneOf p l → l.var ≤ vars
  pub listed : (id : ℕ) (n : Nogood) (p : Pair) (l : Literal) → nogood_at slots id ≡ Some n → pair_at w.rows id ≡ Some p → IsOneOf p l → IsListed w.lists l 0 id n.lits
  pub unwatched : (id : ℕ) (n : Nogood) → nogood_at slots id ≡ Some n → pair_at w.rows id ≡ None → IsApart w.apart id

pub record IsSound (slots : List (Option StoredNogood)) (w : Watches) (t : Trailed) : Type 0 where
  pub net : IsNet t.vars slots w
  pub fit : AreFit slots w.rows w.apart t

-- Each kept nogood that isn't watched has a literal that is false, or stands at this place among those apart, or behind it.
abbrev pub AreSettledFrom : List (Option StoredNogood) → Watches → List Entry → ℕ → Type 0
AreSettledFrom slots w entries i = (id : ℕ) (n : Nogood) → nogood_at slots id ≡ Some n → pair_at w.rows id ≡ None → IsFrom w.apart i id ⊎ ((b : ℕ) × HasFalse entries n.lits b)

abbrev pub AreSettled : List (Option StoredNogood) → List (List Literal) → List Entry → Type 0
AreSettled slots rows entries = (id : ℕ) (n : Nogood) → nogood_at slots id ≡ Some n → pair_at rows id ≡ None → (b : ℕ) × HasFalse entries n.lits b
