-- A stream after an event, and what its reader heard.
use Rattle.std.proofs.Common.{◌≡◌, ◌⊎◌, ℕ, zero, suc, ◌+◌, ◌<◌, Bool, true, false, not, ◌||◌, eqb, List, [], ◌∷◌, ◌++◌, filter, get_or, length, Option, None, Some, refl, sym, ap, ◌∙◌, subst, inl, inr, arith}
use Rattle.std.specs.Prelude.{IfSome}
use Rattle.std.specs.List.{AllByRecursion}
use Rattle.std.proofs.lemmas.Bool.{false≢true, eq-eqb, cases_eq}
use Rattle.std.proofs.lemmas.List.{length-append, length-set}
use Rattle.std.proofs.lemmas.List.Folds.{list_any-append}
use mathlib.Core.List.{IsPrefix}
use Rattle.asp_model.specs.declared.program.Program.{Program}
use Rattle.asp_model.specs.Models.{answers, atoms_of}
use Rattle.asp_model.specs.declared.results.Mode.TheVariants.{Enum}
use Rattle.asp_model.specs.Sets.{Atoms, has}
use Rattle.asp_model.proofs.MemberLaws.{each-append, each_weaker}
use Rattle.asp_vars.specs.Literals.{Literal, complement}
use Rattle.asp_rows.specs.declared.row.Row.{Row}
use Rattle.asp_rows.specs.Listed.{IsRowOf}
use Rattle.asp_path.specs.declared.status.Status.TheVariants as status
use Rattle.asp_path.specs.Trees.{Node, cube_of, is_leaf, is_unclosed, nowhere, split, status_of, with_status}
use Rattle.asp_core.specs.declared.event.Event.{Event}
use Rattle.asp_core.specs.declared.event.Event.TheVariants as event
use Rattle.asp_core.specs.declared.goal.Goal.{Goal}
use Rattle.asp_core.specs.declared.task.Task.{Task}
use Rattle.asp_core.specs.Boards.{Board, is_answer, lists}
use Rattle.asp_core.specs.Sorting.{answers_of}
use Rattle.asp_core.specs.Events.{Guard, happens}
use Rattle.asp_book.specs.Books.{Booked, board, with_events, IsJournalOf}
use Rattle.asp_book.specs.Replies.{Divides, divided}
use Rattle.asp_crew.proofs.BookLaws.{board-task, board-with}
use Rattle.asp_crew.proofs.TreeLaws.{status-set}
use Rattle.asp_crew_laws.specs.Runs.{asks}
use Rattle.asp_crew_laws.proofs.FoundLaws.{answers-same}
use Rattle.asp_watermark.specs.Floors.{IsLow, is_below, listed}
use Rattle.asp_watermark.proofs.BelowLaws.{all-below}
use Rattle.asp_watermark.proofs.FloorLaws.{IsFloor-start, IsLow-first, IsLow-nothing}
use Rattle.asp_backlog.specs.Backlogs.{Pending, with_waiting}
use Rattle.asp_ledger.specs.Ledgers.{IsListing, enumeration, listing}
use Rattle.asp_backlog.specs.Telling.{IsTold}
use Rattle.asp_stream.specs.Streams.{Covers, HasHalves, IsFrontOf, IsPart, IsStream, MayRise, divided_by, leaves_of, start_of}
use Rattle.asp_stream.specs.declared.part.Part.{Part}
use Rattle.asp_stream.proofs.CoverLaws.{first-status, floor-at, has-later, length-split, parts-happen, status-other}
use Rattle.asp_ledger.proofs.LedgerLaws.{board-is, no-limit, nothing-sought}
use Rattle.asp_backlog.proofs.ToldLaws.{told-delivered, told-front, told-happens, told-raised}

-- an enumeration lists the program's answers
pub answers-listed : (p : Program) (budget : ℕ) → listed (enumeration p budget) ≡ answers p
answers-listed p budget = all-below (answers_of (enumeration p budget)) ∙ answers-same p (asks Enum 0 false) budget

-- nothing has happened
pub stream-started : (p : Program) (g : Goal) (budget : ℕ) (x : Part) → x.leaf ≡ 0 → x.low.set ≡ [] → IsRowOf (atoms_of p) x.low →
    IsStream p (start_of p g budget) 0 (listed (listing p g budget)) [] (record { atoms = atoms_of p; floor = []; sets = [] }) (x ∷ []) (leaves_of (x ∷ []))
stream-started p g budget x leaf set row = record {
  program = refl;
  all_are = refl;
  counted = refl;
  told = record { atoms = refl; floor = IsFloor-start (board v); heard_is = refl; waiting = refl };
  parts_are = (
    record {
      within = subst (λ k. k < length (board v).nodes) (sym leaf) (omega arith);
      low = subst (IsLow (board v) x.leaf) (sym set) (IsLow-nothing (board v) x.leaf);
      row = row;
    },
    tt,
  );
  covers = here;
}
  where
    v : Booked
    v = start_of p g budget

    here : (m : ℕ) → is_unclosed (status_of (board v).nodes m) ≡ true → has (leaves_of (x ∷ [])) m ≡ true
    here zero h = ap (λ y. y || false) (eq-eqb x.leaf 0 leaf)
    here (suc m) h = absurd (false≢true h)

pub deliver-guard : (v : Booked) (S : Atoms) → IsListing v.task → is_answer v.task S ≡ true → lists v.task S ≡ true → Guard (board v) (event.Deliver 0 S)
deliver-guard v S task answer listed_is =
    (ap (λ (t : Task). lists t S) (board-task v) ∙ listed_is, ap (λ (t : Task). is_answer t S) (board-task v) ∙ answer, no-limit v task)

-- a delivery
pub stream-delivered : {count : ℕ} (p : Program) (v w : Booked) (S : Atoms) (all heard : List Atoms) (q : Pending) (parts : List Part) (leaves : List ℕ) →
    IsListing v.task → IsJournalOf v.task v.journal → Guard (board v) (event.Deliver 0 S) →
    w ≡ with_events v (event.Deliver 0 S ∷ []) → IsStream p v count all heard q parts leaves →
    IsStream p w count all heard (record q { sets = with_waiting q.floor S q.sets }) parts leaves
stream-delivered p v w S all heard q parts leaves task lawful guard now is =
    let e : Event = event.Deliver 0 S in
    let b : board w ≡ happens (board v) e = ap board now ∙ board-with v e in
    record {
      program = ap (λ (z : Booked). z.task.program) now ∙ is.program;
      all_are = is.all_are ∙ ap (λ (z : Booked). listed z.task) (sym now);
      counted = is.counted;
      told = subst (λ (c : Board). IsTold c heard (record q { sets = with_waiting q.floor S q.sets })) (sym b)
          (told-delivered (board v) S heard q (board-is v task lawful) (nothing-sought v task) guard is.told);
      parts_are = subst (λ (c : Board). AllByRecursion (IsPart c) parts) (sym b) (parts-happen (board v) e parts guard is.parts_are);
      covers = subst (λ (c : Board). Covers c leaves) (sym b) is.covers;
    }

-- ---- the reader
pub front-of-told : (v : Booked) (heard : List Atoms) (q : Pending) → IsListing v.task → IsJournalOf v.task v.journal → IsTold (board v) heard q → IsPrefix heard (listed v.task)
front-of-told v heard q task lawful is = subst (λ (t : Task). IsPrefix heard (listed t)) (board-task v) (told-front (board v) heard q (board-is v task lawful) (nothing-sought v task) is)

pub front-of : {count : ℕ} (p r : Program) (v : Booked) (list all heard : List Atoms) (q : Pending) (parts : List Part) (leaves : List ℕ) →
    IsListing v.task → IsJournalOf v.task v.journal → r ≡ p → list ≡ all → IsStream p v count all heard q parts leaves → IsFrontOf p all r list heard
front-of p r v list all heard q parts leaves task lawful same still is = record {
  program = same;
  all_are = still;
  front = subst (IsPrefix heard) (sym is.all_are) (front-of-told v heard q task lawful is.told);
}

-- ---- the floor rises
-- the atoms of what waits are the program's
pub stream-atoms : {count : ℕ} (p : Program) (v : Booked) (all heard : List Atoms) (q : Pending) (parts : List Part) (leaves : List ℕ) → IsStream p v count all heard q parts leaves →
    q.atoms ≡ atoms_of p
stream-atoms p v all heard q parts leaves is = is.told.atoms ∙ ap (λ (t : Task). atoms_of t.program) (board-task v) ∙ ap atoms_of is.program

pub stream-rows : {count : ℕ} (p : Program) (v : Booked) (all heard : List Atoms) (q : Pending) (parts : List Part) (leaves : List ℕ) → IsStream p v count all heard q parts leaves →
    AllByRecursion (λ (x : Part). IsRowOf (atoms_of p) x.low) parts
stream-rows p v all heard q parts leaves is =
    each_weaker (IsPart (board v)) (λ (x : Part). IsRowOf (atoms_of p) x.low)
    (λ x part. subst (λ (A : Atoms). IsRowOf A x.low) (ap (λ (t : Task). atoms_of t.program) (board-task v) ∙ ap atoms_of is.program) part.row) parts is.parts_are

pub stream-raised : {count : ℕ} (p : Program) (v : Booked) (leaf : ℕ) (low : Atoms) (all heard : List Atoms) (q : Pending) (parts : List Part) →
    IsStream p v count all heard q parts (leaf ∷ leaves_of parts) → IsLow (board v) leaf low → MayRise q.floor parts low →
    IsStream p v (count + length (filter (is_below (Some low)) q.sets)) all (heard ++ filter (is_below (Some low)) q.sets)
    (record q { floor = low; sets = filter (λ S. not (is_below (Some low) S)) q.sets }) parts (leaf ∷ leaves_of parts)
stream-raised p v leaf low all heard q parts is low-is may = record {
  program = is.program;
  all_are = is.all_are;
  counted = ap (λ k. k + length (filter (is_below (Some low)) q.sets)) is.counted ∙ sym (length-append heard (filter (is_below (Some low)) q.sets));
  told = told-raised (board v) heard q low is.told (floor-at (board v) leaf q.floor low parts low-is is.parts_are may is.covers) may.higher;
  parts_are = is.parts_are;
  covers = is.covers;
}

-- and by what was seen of it
pub stream-rose : (p : Program) (v : Booked) (leaf : ℕ) (low : Atoms) (count n : ℕ) (all heard after sets : List Atoms) (q w : Pending) (parts : List Part) →
    IsStream p v count all heard q parts (leaf ∷ leaves_of parts) → IsLow (board v) leaf low → MayRise q.floor parts low → sets ≡ filter (is_below (Some low)) q.sets →
    n ≡ count + length sets → after ≡ heard ++ sets → w ≡ record q { floor = low; sets = filter (λ S. not (is_below (Some low) S)) q.sets } →
    IsStream p v n all after w parts (leaf ∷ leaves_of parts)
stream-rose p v leaf low count n all heard after sets q w parts is low-is may sets-are counted heard-is waits =
    subst (λ k. IsStream p v k all after w parts (leaf ∷ leaves_of parts)) (sym (counted ∙ ap (λ (X : List Atoms). count + length X) sets-are))
    (subst (λ (X : List Atoms). IsStream p v (count + length (filter (is_below (Some low)) q.sets)) all X w parts (leaf ∷ leaves_of parts))
    (sym (heard-is ∙ ap (λ (X : List Atoms). heard ++ X) sets-are))
    (subst (λ (z : Pending). IsStream p v (count + length (filter (is_below (Some low)) q.sets)) all (heard ++ filter (is_below (Some low)) q.sets) z parts (leaf ∷ leaves_of parts)) (sym waits)
    (stream-raised p v leaf low all heard q parts is low-is may)))

-- ---- a leaf that is split
stood : (nodes : List Node) (x y : Node) (m : ℕ) →
    ((m < length nodes) × (get_or (nodes ++ x ∷ y ∷ []) m nowhere ≡ get_or nodes m nowhere)) ⊎ ((m ≡ length nodes) ⊎ ((m ≡ length nodes + 1) ⊎ (get_or (nodes ++ x ∷ y ∷ []) m nowhere ≡ nowhere)))
stood [] x y zero = inr (inl refl)
stood [] x y (suc zero) = inr (inr (inl refl))
stood [] x y (suc (suc m)) = inr (inr (inr refl))
stood (z ∷ nodes) x y zero = inl (omega arith, refl)
stood (z ∷ nodes) x y (suc m) = further (stood nodes x y m)
  where
    further : ((m < length nodes) × (get_or (nodes ++ x ∷ y ∷ []) m nowhere ≡ get_or nodes m nowhere))
        ⊎ ((m ≡ length nodes) ⊎ ((m ≡ length nodes + 1) ⊎ (get_or (nodes ++ x ∷ y ∷ []) m nowhere ≡ nowhere))) →
        ((suc m < length (z ∷ nodes)) × (get_or (nodes ++ x ∷ y ∷ []) m nowhere ≡ get_or nodes m nowhere))
        ⊎ ((suc m ≡ length (z ∷ nodes)) ⊎ ((suc m ≡ length (z ∷ nodes) + 1) ⊎ (get_or (nodes ++ x ∷ y ∷ []) m nowhere ≡ nowhere)))
    further (inl h) = inl (omega (arith, h.0), h.1)
    further (inr (inl h)) = inr (inl (omega (arith, h)))
    further (inr (inr (inl h))) = inr (inr (inl (omega (arith, h))))
    further (inr (inr (inr h))) = inr (inr (inr h))

-- the leaves but the one that was split, and its halves
covers-divided : (b : Board) (leaf : ℕ) (l : Literal) (leaves : List ℕ) (c : Board) → c.nodes ≡ with_status (split b.nodes leaf l) (length b.nodes) status.Open → Covers b (leaf ∷ leaves) →
    is_leaf (status_of b.nodes leaf) ≡ true → Covers c (leaves ++ (length b.nodes + 1) ∷ length b.nodes ∷ [])
covers-divided b leaf l leaves c nodes covers there m h = here (cases_eq m n)
  where
    n : ℕ
    n = length b.nodes

    forked : List Node
    forked = with_status b.nodes leaf status.Forked

    left : Node
    left = record { cube = cube_of b.nodes leaf ++ l ∷ []; status = status_of b.nodes leaf }

    right : Node
    right = record { cube = cube_of b.nodes leaf ++ complement l ∷ []; status = status.Open }

    same-length : length forked ≡ n
    same-length = length-set b.nodes leaf (record { cube = cube_of b.nodes leaf; status = status.Forked })

    or-true : (x : Bool) → (x || true) ≡ true
    or-true true = refl
    or-true false = refl

    among : has ((n + 1) ∷ n ∷ []) m ≡ true → has (leaves ++ (n + 1) ∷ n ∷ []) m ≡ true
    among e = list_any-append (λ k. eqb k m) leaves ((n + 1) ∷ n ∷ []) ∙ ap (λ x. has leaves m || x) e ∙ or-true (has leaves m)

    before : has leaves m ≡ true → has (leaves ++ (n + 1) ∷ n ∷ []) m ≡ true
    before e = list_any-append (λ k. eqb k m) leaves ((n + 1) ∷ n ∷ []) ∙ ap (λ x. x || has ((n + 1) ∷ n ∷ []) m) e

    not-forked : (m ≡ leaf) → is_unclosed (status_of forked m) ≡ true → ⊥
    not-forked e u = false≢true (sym (ap (λ k. is_unclosed (status_of forked k)) e ∙ ap is_unclosed (status-set b.nodes leaf status.Forked there)) ∙ u)

    old : is_unclosed (status_of forked m) ≡ true → (m ≡ leaf) ⊎ (m ≡ leaf → ⊥) → has (leaves ++ (n + 1) ∷ n ∷ []) m ≡ true
    old u (inl e) = absurd (not-forked e u)
    old u (inr other) = before (has-later leaf leaves m (covers m (ap is_unclosed (sym (status-other b.nodes leaf m status.Forked other)) ∙ u)) other)

    by-place : is_unclosed (status_of (split b.nodes leaf l) m) ≡ true →
        ((m < length forked) × (get_or (forked ++ left ∷ right ∷ []) m nowhere ≡ get_or forked m nowhere))
        ⊎ ((m ≡ length forked) ⊎ ((m ≡ length forked + 1) ⊎ (get_or (forked ++ left ∷ right ∷ []) m nowhere ≡ nowhere))) →
        (m ≡ n → ⊥) → has (leaves ++ (n + 1) ∷ n ∷ []) m ≡ true
    by-place u (inl p) other = old (ap (λ (x : Node). is_unclosed x.status) (sym p.1) ∙ u) (cases_eq m leaf)
    by-place u (inr (inl p)) other = absurd (other (p ∙ same-length))
    by-place u (inr (inr (inl p))) other = among (ap (λ x. x || has (n ∷ []) m) (eq-eqb (n + 1) m (omega (arith, p, same-length))))
    by-place u (inr (inr (inr p))) other = absurd (false≢true (sym (ap (λ (x : Node). is_unclosed x.status) p) ∙ u))

    here : ((m ≡ n) ⊎ (m ≡ n → ⊥)) → has (leaves ++ (n + 1) ∷ n ∷ []) m ≡ true
    here (inl e) = among (ap (λ x. eqb (n + 1) m || (x || false)) (eq-eqb n m (sym e)) ∙ or-true (eqb (n + 1) m))
    here (inr other) =
        by-place (ap is_unclosed (sym (ap (λ (ns : List Node). status_of ns m) nodes ∙ status-other (split b.nodes leaf l) n m status.Open other)) ∙ h) (stood forked left right m) other

leaves-halves : (parts : List Part) (right left : Part) → leaves_of (parts ++ right ∷ left ∷ []) ≡ leaves_of parts ++ right.leaf ∷ left.leaf ∷ []
leaves-halves [] right left = refl
leaves-halves (p ∷ parts) right left = ap (λ (l : List ℕ). p.leaf ∷ l) (leaves-halves parts right left)

pub stream-divided : {count : ℕ} (p : Program) (x : Booked) (leaf : ℕ) (l : Literal) (first second : Row) (all heard : List Atoms) (q : Pending) (parts new : List Part) →
    IsStream p x count all heard q parts (leaf ∷ leaves_of parts) → Guard (board x) (event.Split 0 leaf l) →
    IsLow (board x) leaf first.set → IsLow (happens (board x) (event.Split 0 leaf l)) (length (board x).nodes + 1) second.set →
    IsRowOf (atoms_of (board x).task.program) first → IsRowOf (atoms_of (board x).task.program) second →
    HasHalves (length (board x).nodes, length (board x).nodes + 1) first second parts new → IsStream p (divided_by x leaf l) count all heard q new (leaves_of new)
stream-divided p x leaf l first second all heard q parts new is guard low low2 row row2 halves = record {
  program = is.program;
  all_are = is.all_are;
  counted = is.counted;
  told = subst (λ (c : Board). IsTold c heard q) (sym b2) (told-happens b1 e2 heard q guard2 refl refl (told-happens (board x) e1 heard q guard refl refl is.told));
  parts_are = subst (λ (c : Board). AllByRecursion (IsPart c) new) (sym b2) (parts-happen b1 e2 new guard2 halves-are);
  covers = subst (Covers (board y)) (sym leaves) (covers-divided (board x) leaf l (leaves_of parts) (board y) nodes is.covers (ap is_leaf guard.0));
}
  where
    n : ℕ
    n = length (board x).nodes

    e1 : Event
    e1 = event.Split 0 leaf l

    e2 : Event
    e2 = event.Release 0 n

    b1 : Board
    b1 = happens (board x) e1

    y : Booked
    y = divided_by x leaf l

    b2 : board y ≡ happens b1 e2
    b2 = board-with (with_events x (e1 ∷ [])) e2 ∙ ap (λ (b : Board). happens b e2) (board-with x e1)

    guard2 : Guard b1 e2
    guard2 = first-status (board x).nodes leaf l ∙ guard.0

    nodes : (board y).nodes ≡ with_status (split (board x).nodes leaf l) n status.Open
    nodes = ap (λ (b : Board). b.nodes) b2

    leaves : leaves_of new ≡ leaves_of parts ++ (n + 1) ∷ n ∷ []
    leaves = ap leaves_of halves.parts ∙ leaves-halves parts halves.right halves.left
        ∙ (λ k. leaves_of parts ++ halves.right_leaf k ∷ halves.left_leaf k ∷ [])

    longer : length b1.nodes ≡ n + 2
    longer = length-split (board x).nodes leaf l

    right-is : IsPart b1 halves.right
    right-is = record {
      within = omega (arith, longer, halves.right_leaf);
      low = subst (λ k. IsLow b1 k halves.right.low.set) (sym halves.right_leaf) (subst (λ (r : Row). IsLow b1 (n + 1) r.set) (sym halves.right_low) low2);
      row = subst (IsRowOf (atoms_of (board x).task.program)) (sym halves.right_low) row2;
    }

    left-is : IsPart b1 halves.left
    left-is = record {
      within = omega (arith, longer, halves.left_leaf);
      low = subst (λ k. IsLow b1 k halves.left.low.set) (sym halves.left_leaf)
          (subst (λ (r : Row). IsLow b1 n r.set) (sym halves.left_low) (IsLow-first (board x) 0 leaf l first.set guard low));
      row = subst (IsRowOf (atoms_of (board x).task.program)) (sym halves.left_low) row;
    }

    halves-are : AllByRecursion (IsPart b1) new
    halves-are = subst (AllByRecursion (IsPart b1)) (sym halves.parts)
        (each-append (IsPart b1) parts (halves.right ∷ halves.left ∷ []) (parts-happen (board x) e1 parts guard is.parts_are) (right-is, (left-is, tt)))

-- ---- the reply to a split
pub has-room : (b : Board) (r : Option (ℕ × ℕ)) → Divides b r → length b.nodes < 4194304 → r ≡ None → ⊥
has-room b None is room none = false≢true (is.room.1 room)
has-room b (Some leaves) is room none = cc

pub halves-at : (b : Board) (r : Option (ℕ × ℕ)) (leaves : ℕ × ℕ) → Divides b r → r ≡ Some leaves → leaves ≡ (length b.nodes, length b.nodes + 1)
halves-at b r leaves is some = subst (λ (x : Option (ℕ × ℕ)). IfSome x (λ l. l ≡ (length b.nodes, length b.nodes + 1))) some is.leaves

-- v: before; w: it was split
pub split-now : (v w : Booked) (leaf : ℕ) (l : Literal) (r : Option (ℕ × ℕ)) (leaves : ℕ × ℕ) → w ≡ with_events v (divided 0 leaf l r) → r ≡ Some leaves →
    w ≡ with_events v (event.Split 0 leaf l ∷ [])
split-now v w leaf l r leaves now some = now ∙ ap (λ (x : Option (ℕ × ℕ)). with_events v (divided 0 leaf l x)) some

pub first-held : (v w : Booked) (leaf : ℕ) (l : Literal) (n : ℕ) → status_of (board v).nodes leaf ≡ status.Held 0 → w ≡ with_events v (event.Split 0 leaf l ∷ []) → n ≡ length (board v).nodes →
    status_of (board w).nodes n ≡ status.Held 0
first-held v w leaf l n held now at =
    ap (λ (z : Booked). status_of (board z).nodes n) now ∙ ap (λ (b : Board). status_of b.nodes n) (board-with v (event.Split 0 leaf l))
    ∙ ap (status_of (split (board v).nodes leaf l)) at ∙ first-status (board v).nodes leaf l ∙ held

pub divided-now : (v w x : Booked) (leaf : ℕ) (l : Literal) (n : ℕ) → w ≡ with_events v (event.Split 0 leaf l ∷ []) → n ≡ length (board v).nodes → x ≡ with_events w (event.Release 0 n ∷ []) →
    x ≡ divided_by v leaf l
divided-now v w x leaf l n now at after =
    after ∙ ap (λ (z : Booked). with_events z (event.Release 0 n ∷ [])) now
    ∙ ap (λ k. with_events (with_events v (event.Split 0 leaf l ∷ [])) (event.Release 0 k ∷ [])) at

pub row-of-board : (p : Program) (v : Booked) (row : Row) → v.task.program ≡ p → IsRowOf (atoms_of p) row → IsRowOf (atoms_of (board v).task.program) row
row-of-board p v row same is = subst (λ (A : Atoms). IsRowOf A row) (sym (ap (λ (t : Task). atoms_of t.program) (board-task v) ∙ ap atoms_of same)) is

pub halves-more : (leaves : ℕ × ℕ) (first second : Row) (old new : List Part) → HasHalves leaves first second old new → length new ≡ length old + 2
halves-more leaves first second old new is = ap length is.parts ∙ length-append old (is.right ∷ is.left ∷ [])
