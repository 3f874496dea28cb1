-- One leaf after another, and what is left when number 0 has given its units back.
use Rattle.std.proofs.Common.{◌≡◌, ◌⊎◌, ℕ, ◌+◌, ◌-◌, ◌^◌, ◌<◌, min, Bool, true, false, cond, ◌||◌, eqb, List, [], ◌∷◌, length, Option, Some, None, refl, sym, ap, ◌∙◌, subst, inl, inr, arith}
use Rattle.std.specs.List.{AllByRecursion}
use Rattle.std.specs.Prelude.{ℤ, IsTrue, slice_get}
use Rattle.std.specs.Option.{IfSome}
use Rattle.std.proofs.lemmas.Bool.{false≢true, eqb-true, cases_eq}
use Rattle.asp_model.specs.declared.results.Mode.{Mode}
use Rattle.asp_model.specs.Sets.{Atoms}
use Rattle.asp_vars.specs.Conflicts.{has_all}
use Rattle.asp_vars.specs.Literals.{Literal}
use Rattle.asp_vars.specs.Paid.{Clash, Units}
use Rattle.asp_vars.specs.declared.nogood.Nogood.{Nogood}
use Rattle.asp_path.specs.declared.status.Status.{Status}
use Rattle.asp_path.specs.declared.status.Status.TheVariants as status
use Rattle.asp_path.specs.Trees.{Node, all_closed, is_leaf, is_held, is_open, cube_of, status_of, with_status, open_from, held_count}
use Rattle.asp_core.specs.declared.event.Event.{Event}
use Rattle.asp_core.specs.declared.event.Event.TheVariants as event
use Rattle.asp_core.specs.declared.task.Task.{Task}
use Rattle.asp_core.specs.Units.{out_of, returned}
use Rattle.asp_core.specs.Boards.{Board, is_enough}
use Rattle.asp_core.specs.Events.{held_by, Guard, happens, maker}
use Rattle.asp_core.proofs.GrowthLaws.{out_of-leased_other, out_of-returned_other}
use Rattle.asp_core.proofs.PlaceLaws.{held_count-changed}
use Rattle.asp_book.specs.Books.{Booked, board, with_events}
use Rattle.asp_book.specs.Fuels.{ComesBack}
use Rattle.asp_book.specs.Replies.{taken, leased_out, given_back}
use Rattle.asp_search_laws.specs.Searching.{Searching}
use Rattle.asp_crew_laws.specs.Reports.{IsIdle, IsMet, IsWorkedOff}
use Rattle.asp_crew_laws.specs.Working.{IsAtWork, MayBegin}
use Rattle.asp_crew_laws.proofs.WorkLaws.{sought-begins, out_of-leased}
use Rattle.asp_crew.specs.declared.leaf.Left.TheVariants as left
use Rattle.asp_crew.specs.Running.{QueryStands, IsReady, Adds, OnlyRecords, status_after, Ends, LeavesLeaf, IsAlone, IsThrough, LeavesAll}
use Rattle.asp_crew.proofs.AddLaws.{adds-self, adds-events, adds-trans}
use Rattle.asp_crew.proofs.BookLaws.{board-task, board-with, ready-with}
use Rattle.asp_crew.proofs.TreeLaws.{open-changed, taken-open, status-set, cube-set, held_by-le, closed-when}

-- ---- one leaf
held-leaf : (nodes : List Node) (leaf : ℕ) → status_of nodes leaf ≡ status.Held 0 → is_leaf (status_of nodes leaf) ≡ true
held-leaf nodes leaf held = ap is_leaf held

-- from v to w the path was searched, and then the leaf was closed
leaves-closed : (mode : Mode) (v w y : Booked) (leaf : ℕ) (n : Nogood) (s t : Searching) (g : Units) → Ends mode v w s t g (left.Closed n) →
    is_enough (board w) ≡ false → Guard (board w) (event.Close 0 leaf n.lits) → y ≡ with_events w (event.Close 0 leaf n.lits ∷ [])
    → LeavesLeaf mode v y leaf t g None
leaves-closed mode v w y leaf n s t g ends more guard now =
    let b : board y ≡ happens (board w) (event.Close 0 leaf n.lits) = ap board now ∙ board-with w (event.Close 0 leaf n.lits) in
    record {
      ready = ready-with mode w y t g (event.Close 0 leaf n.lits) ends.ready guard refl now;
      task = ap (λ (x : Booked). x.task) now ∙ ends.only.task;
      adds = adds-trans v w y ends.only.adds (adds-events w y (event.Close 0 leaf n.lits ∷ []) now (refl, tt));
      nodes =
          ap (λ (c : Board). c.nodes) b ∙ ap (λ (xs : List Node). with_status xs leaf status.Closed) ends.only.nodes
          ∙ ap (λ x. with_status (board v).nodes leaf (status_after None x)) (sym (ap is_enough b ∙ more));
      out = ap (λ (c : Board). c.out) b ∙ ends.only.out;
      pool = ap (λ (c : Board). c.pool) b ∙ ends.only.pool;
      stopped = tt;
    }

-- the path is the leaf's still, and has the nogood's literals
pub closing-within : (mode : Mode) (v w : Booked) (leaf : ℕ) (q : List Literal) (n : Nogood) (s t : Searching) (g : Units) →
    Ends mode v w s t g (left.Closed n) → q ≡ cube_of (board v).nodes leaf → s.cube ≡ Some q → IsTrue (has_all (cube_of (board w).nodes leaf) n.lits)
closing-within mode v w leaf q n s t g ends is entered =
    ap (λ (xs : List Node). has_all (cube_of xs leaf) n.lits) ends.only.nodes ∙ (ap (λ (k : List Literal). has_all k n.lits) (sym is) ∙ (ends.over.1 q entered).0)

pub closes : (mode : Mode) (v w y : Booked) (leaf : ℕ) (q : List Literal) (n : Nogood) (s t : Searching) (g : Units) →
    Ends mode v w s t g (left.Closed n) → status_of (board v).nodes leaf ≡ status.Held 0 → q ≡ cube_of (board v).nodes leaf → s.cube ≡ Some q
    → y ≡ with_events w (event.Close 0 leaf n.lits ∷ []) → LeavesLeaf mode v y leaf t g None
closes mode v w y leaf q n s t g ends held is entered now =
    leaves-closed mode v w y leaf n s t g ends ends.over.0 (
      ap (λ (xs : List Node). status_of xs leaf) ends.only.nodes ∙ held,
      closing-within mode v w leaf q n s t g ends is entered,
      (ends.over.1 q entered).1,
    ) now

-- or it was opened again
module _ (mode : Mode) (v w y : Booked) (leaf : ℕ) (q : List Literal) (s t : Searching) (g : Units)
    (held : status_of (board v).nodes leaf ≡ status.Held 0) (cube : q ≡ cube_of (board v).nodes leaf) (entered : s.cube ≡ Some q)
    (now : y ≡ with_events w (event.Release 0 leaf ∷ [])) where
  released : board y ≡ happens (board w) (event.Release 0 leaf)
  released = ap board now ∙ board-with w (event.Release 0 leaf)

  still : OnlyRecords v w → status_of (board w).nodes leaf ≡ status.Held 0
  still only = ap (λ (n : List Node). status_of n leaf) only.nodes ∙ held

  opened : (board y).nodes ≡ with_status (board w).nodes leaf status.Open
  opened = ap (λ (c : Board). c.nodes) released

  pub opens-enough : Ends mode v w s t g left.Enough → LeavesLeaf mode v y leaf t g None
  opens-enough ends = record {
    ready = ready-with mode w y t g (event.Release 0 leaf) ends.ready (still ends.only) refl now;
    task = ap (λ (z : Booked). z.task) now ∙ ends.only.task;
    adds = adds-trans v w y ends.only.adds (adds-events w y (event.Release 0 leaf ∷ []) now (refl, tt));
    nodes =
        opened ∙ ap (λ (n : List Node). with_status n leaf status.Open) ends.only.nodes
        ∙ ap (λ x. with_status (board v).nodes leaf (status_after None x)) (sym (ap is_enough released ∙ ends.over));
    out = ap (λ (c : Board). c.out) released ∙ ends.only.out;
    pool = ap (λ (c : Board). c.pool) released ∙ ends.only.pool;
    stopped = tt;
  }

  pub opens-unpaid : (x : Clash) → Ends mode v w s t g (left.Unpaid x) → LeavesLeaf mode v y leaf t g (Some x)
  opens-unpaid x ends =
      let held_now = held-leaf (board w).nodes leaf (still ends.only) in
      let is_q : x.cube ≡ q = (let f : Some x.cube ≡ Some q = sym ends.over.2 ∙ entered in let g : x.cube ≡ q = cc in g) in
      record {
        ready = ready-with mode w y t g (event.Release 0 leaf) ends.ready (still ends.only) refl now;
        task = ap (λ (z : Booked). z.task) now ∙ ends.only.task;
        adds = adds-trans v w y ends.only.adds (adds-events w y (event.Release 0 leaf ∷ []) now (refl, tt));
        nodes = opened ∙ ap (λ (n : List Node). with_status n leaf status.Open) ends.only.nodes;
        out = ap (λ (c : Board). c.out) released ∙ ends.only.out;
        pool = ap (λ (c : Board). c.pool) released ∙ ends.only.pool;
        stopped = (
          ap is_enough released ∙ ends.over.0,
          ends.over.1,
          record {
            unclosed = ap (λ (n : List Node). status_of n leaf) opened ∙ status-set (board w).nodes leaf status.Open held_now;
            cube = is_q ∙ cube ∙ ap (λ (n : List Node). cube_of n leaf) (sym ends.only.nodes)
                ∙ sym (cube-set (board w).nodes leaf status.Open held_now) ∙ ap (λ (n : List Node). cube_of n leaf) (sym opened);
            met = subst (λ (c : Board). IsMet c x) (sym released)
                (record {
                  program = ends.over.3.program;
                  reasoning = ends.over.3.reasoning;
                  known = ends.over.3.known;
                  bound = ends.over.3.bound;
                  conflict = ends.over.3.conflict;
                });
          },
        );
      }

-- ---- all leaves
-- what holds between two leaves, from v on
pub record IsBetween (mode : Mode) (v w : Booked) (s : Searching) (f : Units) : Type 0 where
  pub ready : IsReady mode w s f
  pub alone : IsAlone (board w)
  pub task : w.task ≡ v.task
  pub adds : Adds v w
  pub pool : (board w).pool ≡ (board v).pool

pub free-now : (b : Board) → IsAlone b → held_by 0 b.nodes ≡ 0
free-now b alone = omega (arith, held_by-le 0 b.nodes, alone.free)

-- after a take
pub record IsTaken (mode : Mode) (v w : Booked) (leaf : ℕ) (s : Searching) (f : Units) : Type 0 where
  pub ready : IsReady mode w s f
  pub task : w.task ≡ v.task
  pub adds : Adds v w
  pub was : status_of (board v).nodes leaf ≡ status.Open
  pub nodes : (board w).nodes ≡ with_status (board v).nodes leaf (status.Held 0)
  pub out : (board w).out ≡ (board v).out
  pub pool : (board w).pool ≡ (board v).pool

taken-is : (mode : Mode) (v w : Booked) (leaf : ℕ) (s : Searching) (f : Units) → IsReady mode v s f → IsAlone (board v) →
    status_of (board v).nodes leaf ≡ status.Open → w ≡ with_events v (event.Take 0 leaf ∷ []) → IsTaken mode v w leaf s f
taken-is mode v w leaf s f is alone was now =
    let e : Event = event.Take 0 leaf in
    let b : board w ≡ happens (board v) e = ap board now ∙ board-with v e in
    record {
      ready = ready-with mode v w s f e is (was, free-now (board v) alone) refl now;
      task = ap (λ (z : Booked). z.task) now;
      adds = adds-events v w (e ∷ []) now (refl, tt);
      was = was;
      nodes = ap (λ (c : Board). c.nodes) b;
      out = ap (λ (c : Board). c.out) b;
      pool = ap (λ (c : Board). c.pool) b;
    }

pub taken-by : (mode : Mode) (v w : Booked) (leaf : ℕ) (s : Searching) (f : Units) (r : Option ℕ) → IsReady mode v s f → IsAlone (board v) →
    r ≡ slice_get (open_from 0 (board v).nodes) 0 → w ≡ with_events v (taken 0 r) → r ≡ Some leaf → IsTaken mode v w leaf s f
taken-by mode v w leaf s f r is alone first now some =
    taken-is mode v w leaf s f is alone (taken-open (board v).nodes leaf (sym first ∙ some)) (now ∙ ap (λ (o : Option ℕ). with_events v (taken 0 o)) some)

pub held-taken : (mode : Mode) (v w : Booked) (leaf : ℕ) (s : Searching) (f : Units) → IsTaken mode v w leaf s f → status_of (board w).nodes leaf ≡ status.Held 0
held-taken mode v w leaf s f is = ap (λ (n : List Node). status_of n leaf) is.nodes ∙ status-set (board v).nodes leaf (status.Held 0) (ap is_leaf is.was)

-- after the leaf that was taken
module _ (mode : Mode) (v w y : Booked) (leaf : ℕ) (s t : Searching) (f g : Units) (o : Option Clash) (new : Status) (is : IsTaken mode v w leaf s f)
    (nodes : (board y).nodes ≡ with_status (board w).nodes leaf new) (free : is_held new ≡ false) where
  held : status_of (board w).nodes leaf ≡ status.Held 0
  held = held-taken mode v w leaf s f is

  pub free-after : held_count (board v).nodes ≡ 0 → held_count (board y).nodes ≡ 0
  free-after none =
      omega (
        arith,
        ap held_count nodes,
        held_count-changed (board w).nodes leaf (status.Held 0) new held refl,
        ap held_count is.nodes,
        held_count-changed (board v).nodes leaf status.Open (status.Held 0) is.was refl,
        ap (λ x. let k : ℕ = cond x 1 0 in k) free,
        none,
      )

  pub fewer-after : is_open new ≡ false → length (open_from 0 (board y).nodes) < length (open_from 0 (board v).nodes)
  fewer-after shut =
      omega (
        arith,
        ap (λ (n : List Node). length (open_from 0 n)) nodes,
        open-changed (board w).nodes leaf (status.Held 0) new held refl,
        ap (λ (n : List Node). length (open_from 0 n)) is.nodes,
        open-changed (board v).nodes leaf status.Open (status.Held 0) is.was refl,
        ap (λ x. let k : ℕ = cond x 1 0 in k) shut,
      )

pub alone-after : (b c : Board) → IsAlone b → held_count c.nodes ≡ 0 → c.out ≡ b.out → IsAlone c
alone-after b c alone free out = record { free = free; home = λ s ne. ap (λ (o : List (ℕ × ℕ)). out_of o s) out ∙ alone.home s ne }

not-held : (enough : Bool) → is_held (status_after None enough) ≡ false
not-held true = refl
not-held false = refl

-- the next leaf
pub between-next : (mode : Mode) (u v w y : Booked) (leaf : ℕ) (s t : Searching) (f g : Units) → IsBetween mode u v s f → IsTaken mode v w leaf s f →
    LeavesLeaf mode w y leaf t g None → IsBetween mode u y t g
between-next mode u v w y leaf s t f g is taken left = record {
  ready = left.ready;
  alone =
      alone-after (board v) (board y) is.alone (free-after mode v w y leaf s t f g None (status_after None (is_enough (board y))) taken left.nodes (not-held (is_enough (board y))) is.alone.free)
      (left.out ∙ taken.out);
  task = left.task ∙ taken.task ∙ is.task;
  adds = adds-trans u w y (adds-trans u v w is.adds taken.adds) left.adds;
  pool = left.pool ∙ taken.pool ∙ is.pool;
}

-- how many leaves may be taken still: none where it is enough, and else one more than are open
abbrev pub takes_left : Board → ℕ
takes_left b = cond (is_enough b) 0 (length (open_from 0 b.nodes) + 1)

pub fewer-next : (mode : Mode) (v w y : Booked) (leaf : ℕ) (s t : Searching) (f g : Units) → is_enough (board v) ≡ false → IsTaken mode v w leaf s f →
    LeavesLeaf mode w y leaf t g None → takes_left (board y) < takes_left (board v)
fewer-next mode v w y leaf s t f g more taken left =
    subst (λ x. takes_left (board y) < cond x 0 (length (open_from 0 (board v).nodes) + 1)) (sym more) (here (is_enough (board y)) refl)
  where
    here : (x : Bool) → x ≡ is_enough (board y) → cond x 0 (length (open_from 0 (board y).nodes) + 1) < length (open_from 0 (board v).nodes) + 1
    here true q = omega arith
    here false q =
        let nodes : (board y).nodes ≡ with_status (board w).nodes leaf status.Closed = left.nodes ∙ ap (λ z. with_status (board w).nodes leaf (status_after None z)) (sym q) in
        let less : length (open_from 0 (board y).nodes) < length (open_from 0 (board v).nodes) = fewer-after mode v w y leaf s t f g None status.Closed taken nodes refl refl in
        omega (arith, less)

-- no unit was left
pub all-stopped : (mode : Mode) (u v w y : Booked) (leaf : ℕ) (s t : Searching) (f g : Units) (x : Clash) → IsBetween mode u v s f →
    IsTaken mode v w leaf s f → LeavesLeaf mode w y leaf t g (Some x) → LeavesAll mode u y t g (Some x)
all-stopped mode u v w y leaf s t f g x is taken left = record {
  ready = left.ready;
  alone = alone-after (board v) (board y) is.alone (free-after mode v w y leaf s t f g (Some x) status.Open taken left.nodes refl is.alone.free) (left.out ∙ taken.out);
  task = left.task ∙ taken.task ∙ is.task;
  adds = adds-trans u w y (adds-trans u v w is.adds taken.adds) left.adds;
  pool = left.pool ∙ taken.pool ∙ is.pool;
  through = (left.stopped.0, left.stopped.1, (leaf, left.stopped.2));
}

-- it is enough
pub all-enough : (mode : Mode) (u v : Booked) (s : Searching) (f : Units) → IsBetween mode u v s f → is_enough (board v) ≡ true → LeavesAll mode u v s f None
all-enough mode u v s f is enough = record { ready = is.ready; alone = is.alone; task = is.task; adds = is.adds; pool = is.pool; through = λ more. absurd (false≢true (sym more ∙ enough)) }

-- ---- units at the start
-- all units of the pool, for number 0
abbrev pub all_of : Board → Units
all_of b = record { program = b.task.program; left = min (2 ^ 64 - 1) b.pool; burnt = 0; reasoned = false; known = 0; least = None }

pub record IsLeased (v w : Booked) : Type 0 where
  pub alone : IsAlone (board w)
  pub task : w.task ≡ v.task
  pub adds : Adds v w
  pub pool : (board w).pool ≡ 0
  pub units : out_of (board w).out 0 ≡ (all_of (board v)).left

pub leased-is : (v w : Booked) → IsIdle (board v) → (board v).pool < 2 ^ 64 → w ≡ with_events v (leased_out 0 (all_of (board v))) → IsLeased v w
leased-is v w idle fits now = here (eqb (min (2 ^ 64 - 1) (board v).pool) 0) refl now
  where
    here : (x : Bool) → x ≡ eqb (min (2 ^ 64 - 1) (board v).pool) 0 → w ≡ with_events v (cond x [] (event.Lease 0 (min (2 ^ 64 - 1) (board v).pool) ∷ [])) → IsLeased v w
    here true q now = subst (λ (y : Booked). IsLeased v y) (sym now) (record {
      alone = record { free = idle.free; home = λ s ne. idle.home s };
      task = refl;
      adds = adds-self v;
      pool = omega (arith, fits, eqb-true (min (2 ^ 64 - 1) (board v).pool) 0 (sym q));
      units = idle.home 0 ∙ sym (eqb-true (min (2 ^ 64 - 1) (board v).pool) 0 (sym q));
    })
    here false q now =
        let k : ℕ = min (2 ^ 64 - 1) (board v).pool in
        let e : Event = event.Lease 0 k in
        let b : board w ≡ happens (board v) e = ap board now ∙ board-with v e in
        record {
          alone = record {
            free = ap (λ (c : Board). held_count c.nodes) b ∙ idle.free;
            home = λ s ne. ap (λ (c : Board). out_of c.out s) b ∙ out_of-leased_other (board v).out 0 k s (λ z. ne (sym z)) ∙ idle.home s;
          };
          task = ap (λ (z : Booked). z.task) now;
          adds = adds-events v w (e ∷ []) now (refl, tt);
          pool = ap (λ (c : Board). c.pool) b ∙ (let z : (board v).pool - k ≡ 0 = omega (arith, fits) in z);
          units = ap (λ (c : Board). out_of c.out 0) b ∙ out_of-leased 0 k (board v).out ∙ ap (λ m. m + k) (idle.home 0) ∙ (let z : 0 + k ≡ k = omega arith in z);
        }

-- the units are for a search that knows no answer yet
pub leased-works : (mode : Mode) (bound : Option (List ℤ)) (v w : Booked) (f : Units) → MayBegin mode bound v.task.goal → IsLeased v w → f ≡ all_of (board v) → IsAtWork (board w) 0 mode [] bound f
leased-works mode bound v w f may is units =
    let now : (board w).task ≡ v.task = board-task w ∙ is.task in
    let back : ComesBack (board w) (out_of (board w).out 0) (all_of (board v)) = (
      record { program = ap (λ (t : Task). t.program) (board-task v ∙ sym now); reasoned = λ e. absurd (false≢true e); known = omega arith; least = tt },
      (let z : min (2 ^ 64 - 1) (board v).pool + 0 ≡ min (2 ^ 64 - 1) (board v).pool = omega arith in z) ∙ sym is.units,
    ) in
    subst (λ (u : Units). IsAtWork (board w) 0 mode [] bound u) (sym units)
    (sought-begins (board w) 0 mode bound (all_of (board v)) (subst (λ (t : Task). MayBegin mode bound t.goal) (sym now) may) back)

-- the search begins with them
pub ready-begins : (mode : Mode) (bound : Option (List ℤ)) (w : Booked) (s : Searching) (f : Units) → QueryStands w.task →
    IsAtWork (board w) 0 mode [] bound f → s.program ≡ w.task.program → s.mode ≡ mode → s.known ≡ [] → s.bound ≡ bound → IsReady mode w s f
ready-begins mode bound w s f run work program mode_is known under = record {
  task = run;
  program = program;
  mode_is = mode_is;
  work = subst (λ (k : List Atoms). IsAtWork (board w) 0 mode k s.bound f) (sym known) (subst (λ (o : Option (List ℤ)). IsAtWork (board w) 0 mode [] o f) (sym under) work);
}

-- ---- units at the end
out_of-returned : (s : ℕ) (out : List (ℕ × ℕ)) → out_of (returned s out) s ≡ 0
out_of-returned s [] = refl
out_of-returned s (x ∷ out) = here (eqb x.0 s) refl (out_of-returned s out)
  where
    here : (z : Bool) → z ≡ eqb x.0 s → out_of (returned s out) s ≡ 0 → out_of (cond z ((x.0, 0) ∷ out) (x ∷ returned s out)) s ≡ 0
    here true q rest = ap (λ y. let k : ℕ = cond y 0 (out_of out s) in k) (sym q)
    here false q rest = ap (λ y. let k : ℕ = cond y x.1 (out_of (returned s out) s) in k) (sym q) ∙ rest

home-after : (out : List (ℕ × ℕ)) → ((s : ℕ) → (s ≡ 0 → ⊥) → out_of out s ≡ 0) → (s : ℕ) → out_of (returned 0 out) s ≡ 0
home-after out home s = here (cases_eq s 0)
  where
    here : (s ≡ 0) ⊎ (s ≡ 0 → ⊥) → out_of (returned 0 out) s ≡ 0
    here (inl e) = ap (out_of (returned 0 out)) e ∙ out_of-returned 0 out
    here (inr ne) = out_of-returned_other out 0 s (λ z. ne (sym z)) ∙ home s ne

module _ (mode : Mode) (v w y : Booked) (t : Searching) (g : Units) (o : Option Clash) (left : LeavesAll mode v w t g o) (none : (board v).pool ≡ 0) where
  pub idle-after : y ≡ with_events w (given_back 0 g) → IsIdle (board y)
  idle-after now = here (eqb (g.left + g.burnt) 0) refl now
    where
      here : (x : Bool) → x ≡ eqb (g.left + g.burnt) 0 → y ≡ with_events w (cond x [] (event.Back 0 g.left g.burnt ∷ [])) → IsIdle (board y)
      here true q now = subst (λ (z : Booked). IsIdle (board z)) (sym now) (record {
        free = left.alone.free;
        home = λ s. at s (cases_eq s 0);
      })
        where
          at : (s : ℕ) → (s ≡ 0) ⊎ (s ≡ 0 → ⊥) → out_of (board w).out s ≡ 0
          at s (inl e) = ap (out_of (board w).out) e ∙ sym left.ready.work.units.1 ∙ eqb-true (g.left + g.burnt) 0 (sym q)
          at s (inr ne) = left.alone.home s ne
      here false q now =
          let b : board y ≡ happens (board w) (event.Back 0 g.left g.burnt) = ap board now ∙ board-with w (event.Back 0 g.left g.burnt) in
          record {
            free = ap (λ (c : Board). held_count c.nodes) b ∙ left.alone.free;
            home = λ s. ap (λ (c : Board). out_of c.out s) b ∙ home-after (board w).out left.alone.home s;
          }

  pub task-after : y ≡ with_events w (given_back 0 g) → y.task ≡ v.task
  task-after now = here (eqb (g.left + g.burnt) 0) now
    where
      here : (x : Bool) → y ≡ with_events w (cond x [] (event.Back 0 g.left g.burnt ∷ [])) → y.task ≡ v.task
      here true now = ap (λ (z : Booked). z.task) now ∙ left.task
      here false now = ap (λ (z : Booked). z.task) now ∙ left.task

  pub adds-after : y ≡ with_events w (given_back 0 g) → Adds v y
  adds-after now = adds-trans v w y left.adds (adds-events w y (given_back 0 g) now (here (eqb (g.left + g.burnt) 0)))
    where
      here : (x : Bool) → AllByRecursion (λ e. maker e ≡ 0) (cond x [] (event.Back 0 g.left g.burnt ∷ []))
      here true = tt
      here false = (refl, tt)

-- what is left when the units are back
back-through : (b : Board) (left burnt : ℕ) (f : Units) (o : Option Clash) → IsThrough b f o → IsThrough (happens b (event.Back 0 left burnt)) f o
back-through b left burnt f None none = none
back-through b left burnt f (Some x) h = (
  h.0,
  h.1,
  (
    h.2.0,
    record {
      unclosed = h.2.1.unclosed;
      cube = h.2.1.cube;
      met = record { program = h.2.1.met.program; reasoning = h.2.1.met.reasoning; known = h.2.1.met.known; bound = h.2.1.met.bound; conflict = h.2.1.met.conflict };
    },
  ),
)

-- where a conflict was met no unit is left
pool-after : (b : Board) (left burnt : ℕ) (f : Units) (o : Option Clash) → IsThrough b f o → left ≡ f.left → b.pool ≡ 0 → IfSome o (λ x. b.pool + left ≡ 0)
pool-after b left burnt f None h e none = tt
pool-after b left burnt f (Some x) h e none = omega (arith, h.1, e, none)

over-by : (b : Board) (f : Units) (o : Option Clash) → held_count b.nodes ≡ 0 → IfSome o (λ x. b.pool ≡ 0) → IsThrough b f o → IsWorkedOff b o
over-by b f None free pool none = here (is_enough b) refl
  where
    here : (x : Bool) → x ≡ is_enough b → (x || all_closed b.nodes) ≡ true
    here true q = refl
    here false q = closed-when b.nodes (none (sym q)) free
over-by b f (Some x) free pool left = (left.0, pool, left.2)

zero-pool : (b : Board) (o : Option Clash) → b.pool ≡ 0 → IfSome o (λ x. b.pool ≡ 0)
zero-pool b None e = tt
zero-pool b (Some x) e = e

pub finished : (mode : Mode) (v w y : Booked) (t : Searching) (g : Units) (o : Option Clash) → LeavesAll mode v w t g o → (board v).pool ≡ 0 →
    y ≡ with_events w (given_back 0 g) → IsWorkedOff (board y) o
finished mode v w y t g o left none now = here (eqb (g.left + g.burnt) 0) now
  where
    here : (x : Bool) → y ≡ with_events w (cond x [] (event.Back 0 g.left g.burnt ∷ [])) → IsWorkedOff (board y) o
    here true now = subst (λ (z : Booked). IsWorkedOff (board z) o) (sym now) (over-by (board w) g o left.alone.free (zero-pool (board w) o (left.pool ∙ none)) left.through)
    here false now =
        let e : Event = event.Back 0 g.left g.burnt in
        subst (λ (c : Board). IsWorkedOff c o) (sym (ap board now ∙ board-with w e))
        (over-by (happens (board w) e) g o left.alone.free (pool-after (board w) g.left g.burnt g o left.through refl (left.pool ∙ none)) (back-through (board w) g.left g.burnt g o left.through))
