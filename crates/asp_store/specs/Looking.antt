-- What a look at one nogood finds.
use Rattle.std.specs.Prelude.{◌≡◌, ℕ, ◌⊎◌, true, false, List, [], ◌∷◌, ◌++◌, length, Option, Some, IsTrue}
use Rattle.asp_vars.specs.Literals.{Literal, has_literal, literal_eq, holds_in}
use Rattle.asp_vars.specs.declared.nogood.Nogood.{Nogood}
use Rattle.asp_trail.specs.declared.trail.Entry.{Entry}
use Rattle.asp_trail.specs.Entries.{level, assignment}
use Rattle.asp_trail.specs.Trails.{Trailed, IsVar}
use Rattle.asp_trail.specs.Reasons.{IsReason}
use Rattle.asp_trail.specs.Fixpoint.{is_violated}
use Rattle.asp_store.specs.declared.stored_nogood.StoredNogood.{StoredNogood}
use Rattle.asp_store.specs.declared.watch.Pair.{Pair}
use Rattle.asp_store.specs.Keeping.{nogood_at}
use Rattle.asp_store.specs.Pairs.{pair_of, IsBeside}
use Rattle.asp_store.specs.Fitting.{HasFalse, IsWatched}
use Rattle.asp_store.specs.declared.looks.Look.{Look}
use Rattle.asp_store.specs.declared.looks.Look.TheVariants as look

-- The entries are as before, or have one more, for which the nogood is the reason.
abbrev pub Grew : ℕ → List Literal → List Entry → List Entry → Type 0
Grew id n old new =
    (new ≡ old) ⊎ ((l : Literal) × (new ≡ old ++ record { lit = l; level = level old; reason = Some id } ∷ []) × IsReason new (length old) l n)

-- They have the same literals.
abbrev pub HaveSame : List Literal → List Literal → Type 0
HaveSame n m = (k : Literal) → has_literal n k ≡ has_literal m k

-- The new row has the same literals, and these two come first, in any order.
pub record LeadsWith (old new : List Literal) (l k : Literal) : Type 0 where
  pub pair : Pair
  pub pair_is : pair_of new ≡ Some pair
  pub beside : IsBeside pair l k
  pub same : HaveSame old new

-- All literals but this one are true.
abbrev pub AreTrueBeside : ℕ → List Entry → List Literal → Literal → Type 0
AreTrueBeside vars entries n other = (k : Literal) → IsTrue (has_literal n k) → literal_eq k other ≡ false → holds_in (assignment vars entries) k ≡ true

-- The kept nogood under this number has these literals, of which all are true but this one.
pub record IsLast (slots : List (Option StoredNogood)) (t : Trailed) (id : ℕ) (n : List Literal) (other : Literal) : Type 0 where
  pub nogood : Nogood
  pub kept : nogood_at slots id ≡ Some nogood
  pub same : HaveSame nogood.lits n
  pub has : IsTrue (has_literal n other)
  pub var : IsVar t.vars other.var
  pub others : AreTrueBeside t.vars t.entries n other

-- A look finds the nogood violated, or two literals that watch it wherever they stand, or one that is false.
abbrev pub Found : ℕ → List Literal → List Entry → List Entry → Look → Type 0
Found vars n old new look.Violated = (new ≡ old) × IsTrue (is_violated (assignment vars old) n)
Found vars n old new (look.Watched p) = IsWatched n p new (length new)
Found vars n old new look.Pending = (b : ℕ) × HasFalse new n b
Found vars n old new look.Retired = HasFalse new n 0
