-- A stream while a part is worked on: its leaf is taken, and then closed, split or opened again.
use Rattle.std.proofs.Common.{◌≡◌, ℕ, ◌+◌, ◌-◌, ◌<◌, Bool, true, false, List, [], ◌∷◌, length, refl, sym, ap, ◌∙◌, subst, arith}
use Rattle.std.specs.List.{AllByRecursion}
use Rattle.std.proofs.lemmas.List.{length-set}
use Rattle.asp_model.specs.declared.program.Program.{Program}
use Rattle.asp_model.specs.Models.{atoms_of}
use Rattle.asp_model.specs.Sets.{Atoms}
use Rattle.asp_vars.specs.Literals.{Literal}
use Rattle.asp_rows.specs.Listed.{IsRowOf}
use Rattle.asp_path.specs.declared.status.Status.{Status}
use Rattle.asp_path.specs.declared.status.Status.TheVariants as status
use Rattle.asp_path.specs.Trees.{cube_of, is_leaf, is_open, status_of, with_status}
use Rattle.asp_core.specs.declared.event.Event.{Event}
use Rattle.asp_core.specs.declared.event.Event.TheVariants as event
use Rattle.asp_core.specs.declared.task.Task.{Task}
use Rattle.asp_core.specs.Boards.{Board}
use Rattle.asp_core.specs.Events.{Guard, happens}
use Rattle.asp_core.proofs.GrowthLaws.{Grows-happens}
use Rattle.asp_book.specs.Books.{Booked, board, with_events, IsJournalOf}
use Rattle.asp_book.specs.Replies.{taken_this}
use Rattle.asp_crew.specs.Running.{IsAlone}
use Rattle.asp_crew.proofs.BookLaws.{board-task, board-with}
use Rattle.asp_crew.proofs.FinishLaws.{free-now}
use Rattle.asp_watermark.specs.Floors.{listed}
use Rattle.asp_backlog.specs.Telling.{IsTold}
use Rattle.asp_backlog.proofs.ToldLaws.{told-happens}
use Rattle.asp_ledger.specs.Ledgers.{IsListing}
use Rattle.asp_stream.specs.Leaves.{IsStreamAtEnd, parts_left}
use Rattle.asp_stream.specs.Streams.{Covers, IsFrontOf, IsPart, IsStreamOf, leaves_of}
use Rattle.asp_stream.specs.declared.part.Part.{Part}
use Rattle.asp_stream.specs.declared.stream.Stream.{Stream}
use Rattle.asp_stream.proofs.CoverLaws.{covers-closed, covers-set, covers-without, part-happens, parts-happen}
use Rattle.asp_stream.proofs.LeafLaws.{open-is}
use Rattle.asp_stream.proofs.StreamLaws.{front-of}

-- ---- what holds of each stream
pub stream-atoms : (s : Stream) (all heard : List Atoms) (leaves : List ℕ) → IsStreamOf s all heard leaves → s.backlog.atoms ≡ atoms_of s.compiled.now
stream-atoms s all heard leaves is = is.told.atoms ∙ ap (λ (t : Task). atoms_of t.program) (board-task s.ledger) ∙ ap atoms_of is.program

pub stream-front : (s : Stream) (p : Program) (all heard : List Atoms) (leaves : List ℕ) → IsListing s.ledger.task → IsJournalOf s.ledger.task s.ledger.journal →
    p ≡ s.compiled.now → IsStreamOf s all heard leaves → IsFrontOf s.compiled.now all p all heard
stream-front s p all heard leaves task lawful same is = front-of s.compiled.now p s.ledger all all heard s.backlog s.parts.items leaves task lawful same refl is

-- the same streams, but for what waits
pub leaves-same : (s t : Stream) (all heard : List Atoms) (leaf : ℕ) → t.parts ≡ s.parts → IsStreamOf t all heard (leaf ∷ leaves_of s.parts.items) →
    IsStreamOf t all heard (leaf ∷ leaves_of t.parts.items)
leaves-same s t all heard leaf same is =
    let items : t.parts.items ≡ s.parts.items = λ k. (same k).items in
    subst (λ (l : List Part). IsStreamOf t all heard (leaf ∷ leaves_of l)) (sym items) is

pub front-same : (s t : Stream) (q : Program) (all list heard : List Atoms) → t.compiled ≡ s.compiled → IsFrontOf t.compiled.now all q list heard → IsFrontOf s.compiled.now all q list heard
front-same s t q all list heard same is =
    let program : t.compiled.now ≡ s.compiled.now = λ k. (same k).now in
    subst (λ (p : Program). IsFrontOf p all q list heard) program is

-- one after another
pub front-then : (s t : Stream) (q : Program) (all seen list heard : List Atoms) → t.compiled ≡ s.compiled → seen ≡ all → IsFrontOf t.compiled.now seen q list heard →
    IsFrontOf s.compiled.now all q list heard
front-then s t q all seen list heard same still is =
    front-same s t q all list heard same (subst (λ (l : List Atoms). IsFrontOf t.compiled.now l q list heard) still is)

pub program-same : (s t : Stream) (q : Program) → t.compiled ≡ s.compiled → q ≡ s.compiled.now → q ≡ t.compiled.now
program-same s t q same is =
    let program : t.compiled.now ≡ s.compiled.now = λ k. (same k).now in
    is ∙ sym program

-- ---- an event that delivers nothing
module _ (s : Stream) (w : Booked) (all heard : List Atoms) (leaves : List ℕ) (e : Event) (is : IsStreamOf s all heard leaves) (guard : Guard (board s.ledger) e)
    (now : w ≡ with_events s.ledger (e ∷ [])) (none : (happens (board s.ledger) e).answers ≡ (board s.ledger).answers) where
  after : board w ≡ happens (board s.ledger) e
  after = ap board now ∙ board-with s.ledger e

  same-program : w.task.program ≡ s.compiled.now
  same-program = ap (λ (z : Booked). z.task.program) now ∙ is.program

  still-told : IsTold (board w) heard s.backlog
  still-told = subst (λ (c : Board). IsTold c heard s.backlog) (sym after)
      (told-happens (board s.ledger) e heard s.backlog guard (Grows-happens (board s.ledger) e guard).task none is.told)

  pub stream-with : (leaves' : List ℕ) → Covers (board w) leaves' → IsStreamOf (record s { ledger = w }) all heard leaves'
  stream-with leaves' covers = record {
    program = same-program;
    all_are = is.all_are ∙ ap (λ (z : Booked). listed z.task) (sym now);
    counted = is.counted;
    told = still-told;
    parts_are = subst (λ (c : Board). AllByRecursion (IsPart c) s.parts.items) (sym after) (parts-happen (board s.ledger) e s.parts.items guard is.parts_are);
    covers = covers;
  }

  pub stream-ends : IsStreamAtEnd (record s { ledger = w }) heard
  stream-ends = record { program = same-program; told = still-told; counted = is.counted }

  pub part-with : (p : Part) → IsPart (board s.ledger) p → IsPart (board w) p
  part-with p part = subst (λ (c : Board). IsPart c p) (sym after) (part-happens (board s.ledger) e p guard part)

-- the leaf's status alone changes
with-status : (v w : Booked) (leaf : ℕ) (new : Status) (e : Event) → w ≡ with_events v (e ∷ []) → (happens (board v) e).nodes ≡ with_status (board v).nodes leaf new →
    (board w).nodes ≡ with_status (board v).nodes leaf new
with-status v w leaf new e now nodes = ap (λ (z : Booked). (board z).nodes) now ∙ ap (λ (b : Board). b.nodes) (board-with v e) ∙ nodes

-- ---- the leaf is taken
taken-guard : (v : Booked) (leaf : ℕ) → IsAlone (board v) → is_open (status_of (board v).nodes leaf) ≡ true → Guard (board v) (event.Take 0 leaf)
taken-guard v leaf alone open_leaf = (open-is (status_of (board v).nodes leaf) open_leaf, free-now (board v) alone)

pub stream-taken : (s : Stream) (w : Booked) (all heard : List Atoms) (leaf : ℕ) (leaves : List ℕ) → IsStreamOf s all heard (leaf ∷ leaves) → IsAlone (board s.ledger) →
    is_open (status_of (board s.ledger).nodes leaf) ≡ true → w ≡ with_events s.ledger (taken_this 0 leaf true) → IsStreamOf (record s { ledger = w }) all heard (leaf ∷ leaves)
stream-taken s w all heard leaf leaves is alone open_leaf now =
    stream-with s w all heard (leaf ∷ leaves) (event.Take 0 leaf) is (taken-guard s.ledger leaf alone open_leaf) now refl (leaf ∷ leaves)
    (covers-set (board s.ledger) (board w) leaf (status.Held 0) leaves (with-status s.ledger w leaf (status.Held 0) (event.Take 0 leaf) now refl) is.covers)

pub part-taken : (s : Stream) (w : Booked) (all heard : List Atoms) (part : Part) (leaves : List ℕ) → IsStreamOf s all heard leaves → IsAlone (board s.ledger) →
    is_open (status_of (board s.ledger).nodes part.leaf) ≡ true → w ≡ with_events s.ledger (taken_this 0 part.leaf true) → IsPart (board s.ledger) part → IsPart (board w) part
part-taken s w all heard part leaves is alone open_leaf now part_is =
    part-with s w all heard leaves (event.Take 0 part.leaf) is (taken-guard s.ledger part.leaf alone open_leaf) now refl part part_is

-- the row of its low, among the program's atoms
pub part-row : (s : Stream) (all heard : List Atoms) (leaves : List ℕ) (b : Board) (part : Part) → IsStreamOf s all heard leaves → b ≡ board s.ledger → IsPart b part →
    IsRowOf (atoms_of s.compiled.now) part.low
part-row s all heard leaves b part is same part_is =
    subst (λ (p : Program). IsRowOf (atoms_of p) part.low) (ap (λ (c : Board). c.task.program) same ∙ ap (λ (t : Task). t.program) (board-task s.ledger) ∙ is.program) part_is.row

-- it isn't open
pub untaken : (v w : Booked) (leaf : ℕ) (r : Bool) → w ≡ with_events v (taken_this 0 leaf r) → r ≡ false → w ≡ v
untaken v w leaf r now shut = now ∙ ap (λ x. with_events v (taken_this 0 leaf x)) shut

pub stream-untaken : (s : Stream) (w : Booked) (all heard : List Atoms) (leaf : ℕ) (leaves : List ℕ) → IsStreamOf s all heard (leaf ∷ leaves) → IsAlone (board s.ledger) →
    is_open (status_of (board s.ledger).nodes leaf) ≡ false → w ≡ s.ledger → IsStreamOf (record s { ledger = w }) all heard leaves
stream-untaken s w all heard leaf leaves is alone shut same = subst (λ (z : Booked). IsStreamOf (record s { ledger = z }) all heard leaves) (sym same) (record {
  program = is.program;
  all_are = is.all_are;
  counted = is.counted;
  told = is.told;
  parts_are = is.parts_are;
  covers = covers-without (board s.ledger) leaf leaves alone.free shut is.covers;
})

-- ---- the leaf is closed, or opened again
pub stream-closed : (s : Stream) (w : Booked) (all heard : List Atoms) (leaf : ℕ) (n : List Literal) (leaves : List ℕ) → IsStreamOf s all heard (leaf ∷ leaves) →
    Guard (board s.ledger) (event.Close 0 leaf n) → w ≡ with_events s.ledger (event.Close 0 leaf n ∷ []) → IsStreamOf (record s { ledger = w }) all heard leaves
stream-closed s w all heard leaf n leaves is guard now =
    stream-with s w all heard (leaf ∷ leaves) (event.Close 0 leaf n) is guard now refl leaves
    (covers-closed (board s.ledger) (board w) leaf leaves (ap is_leaf guard.0) (with-status s.ledger w leaf status.Closed (event.Close 0 leaf n) now refl) is.covers)

pub stream-opened : (s : Stream) (w : Booked) (all heard : List Atoms) (leaf : ℕ) (leaves : List ℕ) → IsStreamOf s all heard leaves →
    status_of (board s.ledger).nodes leaf ≡ status.Held 0 → w ≡ with_events s.ledger (event.Release 0 leaf ∷ []) → IsStreamAtEnd (record s { ledger = w }) heard
stream-opened s w all heard leaf leaves is held now = stream-ends s w all heard leaves (event.Release 0 leaf) is held now refl

-- ---- how many parts may still be worked on
same-length : (v w : Booked) (leaf : ℕ) (new : Status) → (board w).nodes ≡ with_status (board v).nodes leaf new → length (board w).nodes ≡ length (board v).nodes
same-length v w leaf new nodes = ap length nodes ∙ length-set (board v).nodes leaf (record { cube = cube_of (board v).nodes leaf; status = new })

-- as many nodes, and as many parts
pub parts-same : (v w : Booked) (old new : List Part) → length (board w).nodes ≡ length (board v).nodes → length new ≡ length old → parts_left w new < 1 + parts_left v old
parts-same v w old new nodes parts = omega (arith, nodes, parts)

length-taken : (v w : Booked) (leaf : ℕ) → w ≡ with_events v (taken_this 0 leaf true) → length (board w).nodes ≡ length (board v).nodes
length-taken v w leaf now = same-length v w leaf (status.Held 0) (with-status v w leaf (status.Held 0) (event.Take 0 leaf) now refl)

length-closed : (v w : Booked) (leaf : ℕ) (n : List Literal) → w ≡ with_events v (event.Close 0 leaf n ∷ []) → length (board w).nodes ≡ length (board v).nodes
length-closed v w leaf n now = same-length v w leaf status.Closed (with-status v w leaf status.Closed (event.Close 0 leaf n) now refl)

-- from v to x no node was made, and then y is made of x
pub less-closed : (v x y : Booked) (leaf : ℕ) (n : List Literal) (old parts : List Part) → length (board x).nodes ≡ length (board v).nodes → length parts ≡ length old →
    y ≡ with_events x (event.Close 0 leaf n ∷ []) → parts_left y parts < 1 + parts_left v old
less-closed v x y leaf n old parts nodes same now = parts-same v y old parts (length-closed x y leaf n now ∙ nodes) same

pub less-divided : (v x y : Booked) (old parts new : List Part) → length (board x).nodes ≡ length (board v).nodes → length parts ≡ length old → length (board x).nodes < 4194304 →
    length (board y).nodes ≡ length (board x).nodes + 2 → length new ≡ length parts + 2 → parts_left y new < 1 + parts_left v old
less-divided v x y old parts new nodes same room longer more = omega (arith, nodes, same, room, longer, more)

-- the same parts
pub same-count : (s t : Stream) → t.parts ≡ s.parts → length t.parts.items ≡ length s.parts.items
same-count s t same = λ k. length (same k).items

-- the leaf isn't taken
pub less-untaken : (v w : Booked) (parts : List Part) → w ≡ v → parts_left w parts < 1 + parts_left v parts
less-untaken v w parts same = parts-same v w parts parts (ap (λ (z : Booked). length (board z).nodes) same) refl

-- or it is, into w, and then told of
pub less-taken : (v w x y : Booked) (leaf : ℕ) (old parts new : List Part) → w ≡ with_events v (taken_this 0 leaf true) → x ≡ w → length parts ≡ length old →
    parts_left y new < 1 + parts_left x parts → parts_left y new < 1 + parts_left v old
less-taken v w x y leaf old parts new now told same less =
    omega (arith, less, ap (λ (z : Booked). length (board z).nodes) told, length-taken v w leaf now, same)
