-- What a walk along one literal's list keeps.
use Rattle.std.specs.Prelude.{◌≡◌, ◌≢◌, ℕ, ◌+◌, ◌≤◌, ◌⊎◌, false, List, length, slice_get, slice_set, Option, Some, None, IfSome, IsTrue}
use Rattle.asp_vars.specs.Literals.{Literal, has_literal, holds_in}
use Rattle.asp_vars.specs.Codes.{code_of}
use Rattle.asp_vars.specs.declared.nogood.Nogood.{Nogood}
use Rattle.asp_trail.specs.declared.trail.Entry.{Entry}
use Rattle.asp_trail.specs.Entries.{assignment}
use Rattle.asp_trail.specs.Trails.{Trailed}
use Rattle.asp_trail.specs.Reasons.{Stands}
use Rattle.asp_trail.specs.Fixpoint.{is_violated, is_at_fixpoint}
use Rattle.asp_store.specs.declared.stored_nogood.StoredNogood.{StoredNogood}
use Rattle.asp_store.specs.Marks.{Watch}
use Rattle.asp_store.specs.declared.watch.Pair.{Pair}
use Rattle.asp_store.specs.declared.watches.Watches.{Watches}
use Rattle.asp_store.specs.declared.front.Front.{Front}
use Rattle.asp_store.specs.declared.front.Step.{Step}
use Rattle.asp_store.specs.declared.front.Step.TheVariants as step
use Rattle.asp_store.specs.declared.top_walks.Pass.{Pass}
use Rattle.asp_store.specs.declared.top_walks.Pass.TheVariants as pass
use Rattle.asp_store.specs.declared.propagation.Propagated.{Propagated}
use Rattle.asp_store.specs.declared.propagation.Propagated.TheVariants as propagated
use Rattle.asp_arena.specs.Rows.{row_at}
use Rattle.asp_store.specs.Keeping.{nogood_at}
use Rattle.asp_store.specs.Lists.{place, size}
use Rattle.asp_store.specs.Pairs.{pair_at, IsOneOf, IsBeside}
use Rattle.asp_store.specs.Fitting.{HasFalse, Extends}
use Rattle.asp_store.specs.Looking.{AreTrueBeside}
use Rattle.asp_store.specs.Sounding.{IsListed, IsSound, AreSettled}

-- Each nogood that watches the literal stands at this place of its list or behind it, or has a literal that is false at a level
-- not above that one's.
abbrev pub AreDone : List (Option StoredNogood) → Watches → List Entry → Front → ℕ → Type 0
AreDone slots w entries f i = (id : ℕ) (n : Nogood) (p : Pair) → nogood_at slots id ≡ Some n → pair_at w.rows id ≡ Some p → IsOneOf p f.lit →
    IsListed w.lists f.lit i id n.lits ⊎ HasFalse entries n.lits f.level

-- The list of the first entry not seen was walked up to this place.
pub record IsWalking (slots : List (Option StoredNogood)) (w : Watches) (t : Trailed) (f : Front) (i : ℕ) : Type 0 where
  pub sound : IsSound slots w t
  pub settled : AreSettled slots w.rows t.entries
  pub done : AreDone slots w t.entries f i
  pub stands : Stands t.entries f.lit t.seen f.level

-- At this place stands this number, whose nogood watches this literal beside the other.
pub record IsVisit (slots : List (Option StoredNogood)) (w : Watches) (t : Trailed) (f : Front) (i id : ℕ) (other : Literal) : Type 0 where
  pub walking : IsWalking slots w t f i
  pub watch : Watch
  pub at : place w.lists (code_of f.lit) i ≡ Some watch
  pub id_is : watch.id ≡ id
  pub pair : Pair
  pub pair_is : pair_at w.rows id ≡ Some pair
  pub beside : IsBeside pair f.lit other

-- The literal may watch the nogood under this number beside the other.
pub record MayWatch (slots : List (Option StoredNogood)) (t : Trailed) (id : ℕ) (other l : Literal) : Type 0 where
  pub small : l.var ≤ t.vars
  pub has : (n : Nogood) → nogood_at slots id ≡ Some n → IsTrue (has_literal n.lits l)
  pub differ : l ≢ other
  pub not_true : holds_in (assignment t.vars t.entries) l ≡ false

-- A kept nogood is violated.
abbrev pub IsViolated : ℕ → List (Option StoredNogood) → List Entry → ℕ → Type 0
IsViolated vars slots entries id = (n : Nogood) × (nogood_at slots id ≡ Some n) × IsTrue (is_violated (assignment vars entries) n.lits)

-- The trail grows by what kept nogoods imply, where a walk stays, or a nogood is violated.
pub record Ends (slots : List (Option StoredNogood)) (old new : Trailed) (found : Option ℕ) : Type 0 where
  pub same : new ≡ record old { entries = new.entries }
  pub extends : Extends slots old.entries new.entries
  pub walking : (w : Watches) (f : Front) (i : ℕ) → IsWalking slots w old f i → IsWalking slots w new f i
  pub violated : IfSome found (IsViolated new.vars slots new.entries)

-- A step goes on to the next place, or the place is gone, or a nogood is violated.
abbrev pub Steps : List (Option StoredNogood) → Watches → Watches → Trailed → Front → ℕ → Step → Type 0
Steps slots old new t f i step.Stays = IsWalking slots new t f (i + 1) × (size new.lists (code_of f.lit) ≡ size old.lists (code_of f.lit))
Steps slots old new t f i step.Goes = IsWalking slots new t f i × (size new.lists (code_of f.lit) + 1 ≡ size old.lists (code_of f.lit))
Steps slots old new t f i (step.Violated id) = IsViolated t.vars slots t.entries id

-- the watches with this list in its place among the others
abbrev pub back : Watches → ℕ → List Watch → Watches
back w c list = record w { lists = slice_set w.lists c list }

-- A walk along the front's list, which is taken out of the others, goes on to the next place, or the place is gone, or tells its
-- nogood, or all literals of its nogood hold but for one, or memory is wanting.
abbrev pub Passes : List (Option StoredNogood) → Watches → List Watch → List Watch → Trailed → Front → ℕ → Pass → Type 0
Passes slots w old new t f i pass.Stays = IsWalking slots (back w (code_of f.lit) new) t f (i + 1) × (length new ≡ length old)
Passes slots w old new t f i pass.Goes = IsWalking slots (back w (code_of f.lit) new) t f i × (length new + 1 ≡ length old)
Passes slots w old new t f i pass.Told = IsWalking slots (back w (code_of f.lit) new) t f i × (length new ≡ length old) × (x : Watch) × (slice_get new i ≡ Some x) × IsTrue x.is_short
Passes slots w old new t f i (pass.Last id other) = IsVisit slots (back w (code_of f.lit) new) t f i id other × (length new ≡ length old) × AreTrueBeside t.vars t.entries (row_at w.rows id) other
Passes slots w old new t f i pass.Full = IsWalking slots (back w (code_of f.lit) new) t f i × (length new ≡ length old)

-- It goes on to the next place, or ends where it is.
abbrev pub Passed : List (Option StoredNogood) → Watches → List Watch → List Watch → Trailed → Front → ℕ → Option ℕ → Type 0
Passed slots w old new t f i None = Passes slots w old new t f i pass.Stays
Passed slots w old new t f i (Some id) = IsWalking slots (back w (code_of f.lit) new) t f i

-- No kept nogood is unit or violated, or this one is violated.
abbrev pub Propagates : ℕ → List (Option StoredNogood) → List Entry → Propagated → Type 0
Propagates vars slots entries propagated.Fixpoint = (id : ℕ) (n : Nogood) → nogood_at slots id ≡ Some n → IsTrue (is_at_fixpoint (assignment vars entries) n.lits)
Propagates vars slots entries (propagated.Violated id) = IsViolated vars slots entries id

-- A walk finds a nogood violated, or comes to the end of the list.
abbrev pub Walked : List (Option StoredNogood) → Watches → Trailed → Front → Option ℕ → Type 0
Walked slots w t f None = (i : ℕ) × (size w.lists (code_of f.lit) ≤ i) × IsWalking slots w t f i
Walked slots w t f (Some id) = IsViolated t.vars slots t.entries id
