-- One part: its leaf is taken, worked on, and then closed, split or opened again.
use Rattle.std.proofs.Common.{◌≡◌, ℕ, ◌+◌, ◌-◌, ◌<◌, true, false, cond, List, [], ◌∷◌, length, Option, None, Some, refl, sym, ap, ◌∙◌, subst, arith}
use Rattle.std.specs.Prelude.{IsTrue}
use Rattle.std.proofs.lemmas.Bool.{false≢true}
use Rattle.std.proofs.lemmas.List.{length-set}
use Rattle.asp_model.specs.declared.results.Mode.TheVariants.{Enum}
use Rattle.asp_vars.specs.Conflicts.{has_all}
use Rattle.asp_vars.specs.Literals.{Literal}
use Rattle.asp_vars.specs.Paid.{Clash, Units}
use Rattle.asp_vars.specs.declared.nogood.Nogood.{Nogood}
use Rattle.asp_path.specs.declared.status.Status.{Status}
use Rattle.asp_path.specs.declared.status.Status.TheVariants as status
use Rattle.asp_path.specs.Trees.{Node, cube_of, held_count, is_held, is_leaf, is_open, status_of, with_status}
use Rattle.asp_core.specs.declared.event.Event.{Event}
use Rattle.asp_core.specs.declared.event.Event.TheVariants as event
use Rattle.asp_core.specs.declared.task.Task.{Task}
use Rattle.asp_core.specs.Boards.{Board}
use Rattle.asp_core.specs.Events.{Guard, happens, IsVariable}
use Rattle.asp_core.proofs.PlaceLaws.{held_count-changed, held_count-split}
use Rattle.asp_book.specs.Books.{Booked, board, with_events}
use Rattle.asp_book.specs.Replies.{taken_this}
use Rattle.asp_search.specs.Beside.{IsOpen}
use Rattle.asp_search_laws.specs.Searching.{Searching}
use Rattle.asp_crew_laws.specs.Reports.{IsMet}
use Rattle.asp_crew.specs.Running.{IsAlone, IsReady, OnlyRecords}
use Rattle.asp_crew.proofs.AddLaws.{adds-events, adds-self, adds-trans}
use Rattle.asp_crew.proofs.BookLaws.{board-task, board-with, ready-with}
use Rattle.asp_crew.proofs.FinishLaws.{IsTaken, alone-after, free-now}
use Rattle.asp_crew.proofs.TreeLaws.{cube-set, status-set}
use Rattle.asp_stream.specs.Leaves.{EndsLeaf, LeavesHeld, LeavesPart}
use Rattle.asp_stream.specs.Streams.{Covers, Knows, divided_by}
use Rattle.asp_stream.specs.declared.leaf.Left.{Left}
use Rattle.asp_stream.specs.declared.leaf.Left.TheVariants as left
use Rattle.asp_stream.specs.declared.told.End.{End}
use Rattle.asp_stream.specs.declared.told.End.TheVariants as end
use Rattle.asp_stream.proofs.CoverLaws.{covers-none, first-status, length-split}

pub open-is : (s : Status) → is_open s ≡ true → s ≡ status.Open
open-is status.Open e = refl
open-is (status.Held t) e = absurd (false≢true e)
open-is status.Closed e = absurd (false≢true e)
open-is status.Forked e = absurd (false≢true e)

-- ---- the leaf is taken
pub taken-is : (v w : Booked) (leaf : ℕ) (s : Searching) (f : Units) → IsReady Enum v s f → IsAlone (board v) →
    is_open (status_of (board v).nodes leaf) ≡ true → w ≡ with_events v (taken_this 0 leaf true) → IsTaken Enum v w leaf s f
taken-is v w leaf s f is alone open_leaf now =
    let e : Event = event.Take 0 leaf in
    let was : status_of (board v).nodes leaf ≡ status.Open = open-is (status_of (board v).nodes leaf) open_leaf in
    let b : board w ≡ happens (board v) e = ap board now ∙ board-with v e in
    record {
      ready = ready-with Enum v w s f e is (was, free-now (board v) alone) refl now;
      task = ap (λ (z : Booked). z.task) now;
      adds = adds-events v w (e ∷ []) now (refl, tt);
      was = was;
      nodes = ap (λ (c : Board). c.nodes) b;
      out = ap (λ (c : Board). c.out) b;
      pool = ap (λ (c : Board). c.pool) b;
    }

-- nothing was recorded
pub only-same : (v w : Booked) → w ≡ v → OnlyRecords v w
only-same v w same = subst (OnlyRecords v) (sym same) (record { task = refl; adds = adds-self v; nodes = refl; out = refl; pool = refl })

-- ---- parts in a row
pub left-self : (v : Booked) (s : Searching) (f : Units) → IsReady Enum v s f → IsAlone (board v) → LeavesPart v v s f None
left-self v s f ready alone = record { ready = ready; alone = alone; task = refl; adds = adds-self v; pool = refl; out = refl; over = tt }

pub left-on : (u v w : Booked) (s t : Searching) (f g : Units) (how : Option End) → LeavesPart u v s f None → LeavesPart v w t g how → LeavesPart u w t g how
left-on u v w s t f g how a b = record {
  ready = b.ready;
  alone = b.alone;
  task = b.task ∙ a.task;
  adds = adds-trans u v w a.adds b.adds;
  pool = b.pool ∙ a.pool;
  out = b.out ∙ a.out;
  over = b.over;
}

pub left-finished : (u v : Booked) (s : Searching) (f : Units) → LeavesPart u v s f None → Covers (board v) [] → LeavesPart u v s f (Some end.Finished)
left-finished u v s f a covers = record { ready = a.ready; alone = a.alone; task = a.task; adds = a.adds; pool = a.pool; out = a.out; over = covers-none (board v) covers }

-- ---- a leaf that was held
-- what is left of it, after it was taken
pub held-left : (v w y : Booked) (leaf : ℕ) (s t : Searching) (f g : Units) (how : Option End) → IsAlone (board v) → IsTaken Enum v w leaf s f → LeavesHeld w y leaf t g how →
    LeavesPart v y t g how
held-left v w y leaf s t f g how alone taken left = record {
  ready = left.ready;
  alone = alone-after (board v) (board y) alone
      (omega (arith, left.free, ap held_count taken.nodes, held_count-changed (board v).nodes leaf status.Open (status.Held 0) taken.was refl, alone.free))
      (left.out ∙ taken.out);
  task = left.task ∙ taken.task;
  adds = adds-trans v w y taken.adds left.adds;
  pool = left.pool ∙ taken.pool;
  out = left.out ∙ taken.out;
  over = left.over;
}

one-less : (b c : Board) (leaf : ℕ) (new : Status) → status_of b.nodes leaf ≡ status.Held 0 → c.nodes ≡ with_status b.nodes leaf new → is_held new ≡ false → held_count c.nodes
    + 1 ≡ held_count b.nodes
one-less b c leaf new held nodes free =
    omega (arith, ap held_count nodes, held_count-changed b.nodes leaf (status.Held 0) new held refl, ap (λ x. let k : ℕ = cond x 1 0 in k) free)

-- w: the leaf is held; x: it was searched
module _ (w x : Booked) (leaf : ℕ) (s1 t : Searching) (g : Units) (q : List Literal) (held : status_of (board w).nodes leaf ≡ status.Held 0)
    (cube : q ≡ cube_of (board w).nodes leaf) (entered : s1.cube ≡ Some q) where
  pub still-held : (how : Left) → EndsLeaf w x leaf s1 t g how → status_of (board x).nodes leaf ≡ status.Held 0
  still-held how ends = ap (λ (ns : List Node). status_of ns leaf) ends.only.nodes ∙ held

  same-cube : (how : Left) → EndsLeaf w x leaf s1 t g how → q ≡ cube_of (board x).nodes leaf
  same-cube how ends = cube ∙ ap (λ (ns : List Node). cube_of ns leaf) (sym ends.only.nodes)

  -- the path is the leaf's still
  pub still-there : (how : Left) → EndsLeaf w x leaf s1 t g how → Knows x t leaf
  still-there how ends = record {
    program = ends.ready.program;
    mode = ends.ready.mode_is;
    agrees = ends.ready.work.agrees;
    cube = ends.cube ∙ entered ∙ ap (λ (k : List Literal). Some k) (same-cube how ends);
  }

  pub close-guard : (n : Nogood) → EndsLeaf w x leaf s1 t g (left.Closed n) → Guard (board x) (event.Close 0 leaf n.lits)
  close-guard n ends = (
    still-held (left.Closed n) ends,
    subst (λ (k : List Literal). IsTrue (has_all k n.lits)) (same-cube (left.Closed n) ends) (ends.over q entered).0,
    (ends.over q entered).1,
  )

  -- y: at the end
  pub after-closed : (y : Booked) (n : Nogood) → EndsLeaf w x leaf s1 t g (left.Closed n) → y ≡ with_events x (event.Close 0 leaf n.lits ∷ []) → LeavesHeld w y leaf t g None
  after-closed y n ends now =
      let e : Event = event.Close 0 leaf n.lits in
      let b : board y ≡ happens (board x) e = ap board now ∙ board-with x e in
      record {
        ready = ready-with Enum x y t g e ends.ready (close-guard n ends) refl now;
        task = ap (λ (z : Booked). z.task) now ∙ ends.only.task;
        adds = adds-trans w x y ends.only.adds (adds-events x y (e ∷ []) now (refl, tt));
        pool = ap (λ (c : Board). c.pool) b ∙ ends.only.pool;
        out = ap (λ (c : Board). c.out) b ∙ ends.only.out;
        free = one-less (board w) (board y) leaf status.Closed held
            (ap (λ (c : Board). c.nodes) b ∙ ap (λ (ns : List Node). with_status ns leaf status.Closed) ends.only.nodes) refl;
        over = tt;
      }

  pub after-unpaid : (y : Booked) (c : Clash) → EndsLeaf w x leaf s1 t g (left.Unpaid c) → y ≡ with_events x (event.Release 0 leaf ∷ []) → LeavesHeld w y leaf t g (Some (end.Unpaid c))
  after-unpaid y c ends now =
      let e : Event = event.Release 0 leaf in
      let b : board y ≡ happens (board x) e = ap board now ∙ board-with x e in
      let nodes : (board y).nodes ≡ with_status (board x).nodes leaf status.Open = ap (λ (z : Board). z.nodes) b in
      let still : status_of (board x).nodes leaf ≡ status.Held 0 = still-held (left.Unpaid c) ends in
      let is_q : c.cube ≡ q = (let f : Some c.cube ≡ Some q = sym ends.over.2 ∙ entered in let h : c.cube ≡ q = cc in h) in
      record {
        ready = ready-with Enum x y t g e ends.ready still refl now;
        task = ap (λ (z : Booked). z.task) now ∙ ends.only.task;
        adds = adds-trans w x y ends.only.adds (adds-events x y (e ∷ []) now (refl, tt));
        pool = ap (λ (z : Board). z.pool) b ∙ ends.only.pool;
        out = ap (λ (z : Board). z.out) b ∙ ends.only.out;
        free = one-less (board w) (board y) leaf status.Open held (nodes ∙ ap (λ (ns : List Node). with_status ns leaf status.Open) ends.only.nodes) refl;
        over = (
          ends.over.1,
          (
            leaf,
            record {
              unclosed = ap (λ (ns : List Node). status_of ns leaf) nodes ∙ status-set (board x).nodes leaf status.Open (ap is_leaf still);
              cube = is_q ∙ same-cube (left.Unpaid c) ends ∙ sym (cube-set (board x).nodes leaf status.Open (ap is_leaf still)) ∙ ap (λ (ns : List Node). cube_of ns leaf) (sym nodes);
              met = subst (λ (z : Board). IsMet z c) (sym b) (record {
                program = ends.over.3.program;
                reasoning = ends.over.3.reasoning;
                known = ends.over.3.known;
                bound = ends.over.3.bound;
                conflict = ends.over.3.conflict;
              });
            },
          ),
        );
      }

-- what was searched, and then its leaf opened
module _ (w x y : Booked) (leaf : ℕ) (t : Searching) (g : Units) (held : status_of (board w).nodes leaf ≡ status.Held 0) (is_ready : IsReady Enum x t g) (only : OnlyRecords w x) where
  still : status_of (board x).nodes leaf ≡ status.Held 0
  still = ap (λ (ns : List Node). status_of ns leaf) only.nodes ∙ held

  pub after-unwanted : y ≡ with_events x (event.Release 0 leaf ∷ []) → LeavesHeld w y leaf t g (Some end.Unwanted)
  after-unwanted now =
      let e : Event = event.Release 0 leaf in
      let b : board y ≡ happens (board x) e = ap board now ∙ board-with x e in
      record {
        ready = ready-with Enum x y t g e is_ready still refl now;
        task = ap (λ (z : Booked). z.task) now ∙ only.task;
        adds = adds-trans w x y only.adds (adds-events x y (e ∷ []) now (refl, tt));
        pool = ap (λ (c : Board). c.pool) b ∙ only.pool;
        out = ap (λ (c : Board). c.out) b ∙ only.out;
        free = one-less (board w) (board y) leaf status.Open held
            (ap (λ (c : Board). c.nodes) b ∙ ap (λ (ns : List Node). with_status ns leaf status.Open) only.nodes) refl;
        over = tt;
      }

  -- or split, and its first half opened
  module _ (lit : Literal) (room : length (board x).nodes < 4194304) (opens : IsOpen x.task.program (cube_of (board x).nodes leaf) lit) where
    abbrev e1 : Event
    e1 = event.Split 0 leaf lit

    abbrev n : ℕ
    n = length (board x).nodes

    abbrev m : Booked
    m = with_events x (e1 ∷ [])

    pub split-guard : Guard (board x) e1
    split-guard = (still, room, subst (λ (k : Task). IsVariable k.program lit.var) (sym (board-task x)) opens.0, opens.1)

    pub first-held : status_of (board m).nodes n ≡ status.Held 0
    first-held = ap (λ (b : Board). status_of b.nodes n) (board-with x e1) ∙ first-status (board x).nodes leaf lit ∙ still

    opened : (board (divided_by x leaf lit)).nodes ≡ with_status (board m).nodes n status.Open
    opened = ap (λ (b : Board). b.nodes) (board-with m (event.Release 0 n))

    pub after-divided : y ≡ divided_by x leaf lit → LeavesHeld w y leaf t g None
    after-divided now =
        let e2 : Event = event.Release 0 n in
        let b1 : board m ≡ happens (board x) e1 = board-with x e1 in
        let b2 : board y ≡ happens (board m) e2 = ap board now ∙ board-with m e2 in
        record {
          ready = ready-with Enum m y t g e2 (ready-with Enum x m t g e1 is_ready split-guard refl refl) first-held refl now;
          task = ap (λ (z : Booked). z.task) now ∙ only.task;
          adds = adds-trans w m y (adds-trans w x m only.adds (adds-events x m (e1 ∷ []) refl (refl, tt))) (adds-events m y (e2 ∷ []) now (refl, tt));
          pool = ap (λ (b : Board). b.pool) b2 ∙ ap (λ (b : Board). b.pool) b1 ∙ only.pool;
          out = ap (λ (b : Board). b.out) b2 ∙ ap (λ (b : Board). b.out) b1 ∙ only.out;
          free = one-less (board m) (board y) n status.Open first-held (ap (λ (b : Board). b.nodes) b2) refl
              ∙ ap (λ (b : Board). held_count b.nodes) b1 ∙ held_count-split (board x).nodes leaf 0 lit still ∙ ap held_count only.nodes;
          over = tt;
        }

    pub longer-by-two : y ≡ divided_by x leaf lit → length (board y).nodes ≡ n + 2
    longer-by-two now =
        omega (
          arith,
          ap (λ (z : Booked). length (board z).nodes) now,
          ap length opened,
          length-set (board m).nodes n (record { cube = cube_of (board m).nodes n; status = status.Open }),
          ap (λ (b : Board). length b.nodes) (board-with x e1),
          length-split (board x).nodes leaf lit,
        )
