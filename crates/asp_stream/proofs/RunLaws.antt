-- A run: it begins with all units, and one part after another is worked on.
use Rattle.std.proofs.Common.{◌≡◌, ℕ, ◌+◌, ◌<◌, ◌≤◌, Bool, true, false, cond, ◌||◌, eqb, List, [], ◌∷◌, ◌++◌, length, refl, sym, ap, ◌∙◌, subst, arith}
use Rattle.std.specs.List.{AllByRecursion}
use Rattle.std.proofs.lemmas.List.{length-append}
use Rattle.std.proofs.lemmas.List.Folds.{list_any-append}
use mathlib.Core.List.{IsPrefix}
use Rattle.asp_model.specs.declared.program.Program.{Program}
use Rattle.asp_model.specs.Sets.{Atoms, has}
use Rattle.asp_model.proofs.MemberLaws.{each-front}
use Rattle.asp_vars.specs.Paid.{Units}
use Rattle.asp_core.specs.declared.event.Event.TheVariants as event
use Rattle.asp_core.specs.declared.goal.Goal.{Goal}
use Rattle.asp_core.specs.Boards.{Board}
use Rattle.asp_book.specs.Books.{Booked, board, with_events}
use Rattle.asp_book.specs.Replies.{leased_out}
use Rattle.asp_crew.proofs.BookLaws.{board-with}
use Rattle.asp_stream.specs.Leaves.{parts_left}
use Rattle.asp_stream.specs.Streams.{Covers, IsFrontOf, IsPart, IsStreamOf, leaves_of, start_of}
use Rattle.asp_stream.specs.Endings.{IsBegun, all_units}
use Rattle.asp_stream.specs.declared.part.Part.{Part}
use Rattle.asp_stream.specs.declared.stream.Stream.{Stream}
use Rattle.asp_stream.proofs.PartLaws.{stream-with}

-- ---- it begins
-- no more units than the pool has
pub lease-fits : (v : Booked) (budget : ℕ) (p : Program) (f : Units) → IsBegun v → v.task.budget ≡ budget → f ≡ all_units p budget → f.left ≤ (board v).pool
lease-fits v budget p f is same units = omega (arith, ap (λ (u : Units). u.left) units, is.pool, same)

-- the units go out
pub stream-leased : (s : Stream) (w : Booked) (all heard : List Atoms) (f : Units) → IsStreamOf s all heard (leaves_of s.parts.items) → f.left ≤ (board s.ledger).pool →
    w ≡ with_events s.ledger (leased_out 0 f) → IsStreamOf (record s { ledger = w }) all heard (leaves_of s.parts.items)
stream-leased s w all heard f is fits now = here (eqb f.left 0) now
  where
    here : (x : Bool) → w ≡ with_events s.ledger (cond x [] (event.Lease 0 f.left ∷ [])) → IsStreamOf (record s { ledger = w }) all heard (leaves_of s.parts.items)
    here true same = subst (λ (z : Booked). IsStreamOf (record s { ledger = z }) all heard (leaves_of s.parts.items)) (sym same) (record {
      program = is.program;
      all_are = is.all_are;
      counted = is.counted;
      told = is.told;
      parts_are = is.parts_are;
      covers = is.covers;
    })
    here false same =
        stream-with s w all heard (leaves_of s.parts.items) (event.Lease 0 f.left) is fits same refl (leaves_of s.parts.items)
        (subst (λ (b : Board). Covers b (leaves_of s.parts.items)) (sym (ap board same ∙ board-with s.ledger (event.Lease 0 f.left))) is.covers)

pub nothing-heard : (p q : Program) (all heard : List Atoms) → q ≡ p → heard ≡ [] → IsFrontOf p all q all heard
nothing-heard p q all heard same none = record { program = same; all_are = refl; front = subst (λ (l : List Atoms). IsPrefix l all) (sym none) (all, refl) }

pub front-by : (p p' q : Program) (all list heard : List Atoms) → p' ≡ p → IsFrontOf p' all q list heard → IsFrontOf p all q list heard
front-by p p' q all list heard same is = subst (λ (x : Program). IsFrontOf x all q list heard) same is

-- a stream at which nothing has happened may begin
pub start-begun : (p : Program) (g : Goal) (budget : ℕ) (v : Booked) → v ≡ start_of p g budget → IsBegun v
start-begun p g budget v now = subst IsBegun (sym now) (record { idle = record { free = refl; home = λ s. refl }; pool = refl })

-- by these words for its reader's list and for what was heard
pub stream-by : (s : Stream) (all list heard : List Atoms) → list ≡ all → heard ≡ [] → IsStreamOf s all [] (leaves_of s.parts.items) → IsStreamOf s list heard (leaves_of s.parts.items)
stream-by s all list heard same none is =
    subst (λ (l : List Atoms). IsStreamOf s l heard (leaves_of s.parts.items)) (sym same)
    (subst (λ (h : List Atoms). IsStreamOf s all h (leaves_of s.parts.items)) (sym none) is)

-- ---- the next part is the last of those that wait
or-swaps : (a b : Bool) → (a || (b || false)) ≡ true → (b || a) ≡ true
or-swaps true true e = refl
or-swaps true false e = refl
or-swaps false true e = refl
or-swaps false false e = e

leaves-last : (parts : List Part) (part : Part) → leaves_of (parts ++ part ∷ []) ≡ leaves_of parts ++ part.leaf ∷ []
leaves-last [] part = refl
leaves-last (p ∷ parts) part = ap (λ (l : List ℕ). p.leaf ∷ l) (leaves-last parts part)

each-last : {X : Type 0} (P : X → Type 0) (xs : List X) (x : X) → AllByRecursion P (xs ++ x ∷ []) → P x
each-last P [] x h = h.0
each-last P (y ∷ xs) x h = each-last P xs x h.1

covers-last : (b : Board) (old rest : List Part) (part : Part) → old ≡ rest ++ part ∷ [] → Covers b (leaves_of old) → Covers b (part.leaf ∷ leaves_of rest)
covers-last b old rest part now covers m h =
    or-swaps (has (leaves_of rest) m) (eqb part.leaf m)
    (sym (list_any-append (λ k. eqb k m) (leaves_of rest) (part.leaf ∷ [])) ∙ ap (λ (l : List ℕ). has l m) (sym (ap leaves_of now ∙ leaves-last rest part)) ∙ covers m h)

module _ (s t : Stream) (all heard : List Atoms) (part : Part) (is : IsStreamOf s all heard (leaves_of s.parts.items)) (now : s.parts.items ≡ t.parts.items ++ part ∷ []) where
  parts-are : AllByRecursion (IsPart (board s.ledger)) (t.parts.items ++ part ∷ [])
  parts-are = subst (AllByRecursion (IsPart (board s.ledger))) now is.parts_are

  pub part-popped : IsPart (board s.ledger) part
  part-popped = each-last (IsPart (board s.ledger)) t.parts.items part parts-are

  pub stream-popped : t ≡ record s { parts = t.parts } → IsStreamOf t all heard (part.leaf ∷ leaves_of t.parts.items)
  stream-popped same = subst (λ (z : Stream). IsStreamOf z all heard (part.leaf ∷ leaves_of t.parts.items)) (sym same) (record {
    program = is.program;
    all_are = is.all_are;
    counted = is.counted;
    told = is.told;
    parts_are = each-front (IsPart (board s.ledger)) t.parts.items (part ∷ []) parts-are;
    covers = covers-last (board s.ledger) s.parts.items t.parts.items part now is.covers;
  })

pub fewer-parts : (v w : Booked) (old rest new : List Part) (part : Part) → old ≡ rest ++ part ∷ [] → parts_left w new < 1 + parts_left v rest → parts_left w new < parts_left v old
fewer-parts v w old rest new part now less = omega (arith, less, ap length now, length-append rest (part ∷ []))

-- ---- none is left
no-parts : (parts : List Part) → length parts ≡ 0 → parts ≡ []
no-parts [] e = refl
no-parts (p ∷ parts) e = absurd (let f : ⊥ = omega (arith, e) in f)

pub covers-nothing : (s : Stream) (all heard : List Atoms) → IsStreamOf s all heard (leaves_of s.parts.items) → length s.parts.items ≡ 0 → Covers (board s.ledger) []
covers-nothing s all heard is none = subst (Covers (board s.ledger)) (ap leaves_of (no-parts s.parts.items none)) is.covers
