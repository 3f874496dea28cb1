-- What a call at the desk tells of the seat that made it.
use Rattle.std.proofs.Common.{◌≡◌, ℕ, ◌+◌, ◌<◌, ◌≤◌, Bool, true, false, cond, List, [], ◌∷◌, ◌++◌, length, Option, Some, None, Result, Ok, Err, refl, sym, ap, ◌∙◌, subst, arith}
use Rattle.std.specs.Prelude.{slice_index_or, is_some}
use Rattle.std.specs.Option.{IfSome}
use Rattle.std.specs.Result.{OnOk, OnErr, IsErr}
use Rattle.std.specs.declared.alloc.AllocError.{AllocError}
use Rattle.std.specs.List.{All}
use Rattle.std.proofs.lemmas.Bool.{false≢true, eq-eqb}
use Rattle.std.proofs.lemmas.List.{length-set, get_or-set_same, get_or-append-add}
use Rattle.asp_vars.specs.Literals.{Literal, complement}
use Rattle.asp_vars.specs.Numbering.{var_count}
use Rattle.asp_vars.specs.Numbering.{IsVar}
use Rattle.asp_vault.specs.Moments.{Stays}
use Rattle.asp_vault.specs.Seats.{view, IsBeside}
use Rattle.asp_path.specs.declared.status.Status.{Status}
use Rattle.asp_path.specs.declared.status.Status.TheVariants as status
use Rattle.asp_path.specs.Trees.{Node, is_leaf, is_held_by, nowhere, cube_of, status_of, with_status, split}
use Rattle.asp_path.proofs.TreeLaws.{leaf-within}
use Rattle.asp_core.specs.declared.event.Event.{Event}
use Rattle.asp_core.specs.declared.event.Event.TheVariants as event
use Rattle.asp_core.specs.declared.task.Task.{Task}
use Rattle.asp_core.specs.Units.{out_of}
use Rattle.asp_core.specs.Boards.{Board, start}
use Rattle.asp_core.specs.Events.{Guard, happens, held_by, run, IsLawful, replay}
use Rattle.asp_core.specs.Growth.{Grows, Spares}
use Rattle.asp_core.specs.Invariant.{IsBoard}
use Rattle.asp_core.proofs.BoardLaws.{held-changed}
use Rattle.asp_core.proofs.CubeLaws.{cube-at}
use Rattle.asp_core.proofs.GrowthLaws.{Grows-itself, Grows-trans, Grows-happens}
use Rattle.asp_core.proofs.ResultLaws.{IsBoard-replay, task-run}
use Rattle.asp_book.specs.Books.{IsJournalOf}
use Rattle.asp_book.specs.Calls.{Knows, task_of, seen_board, IsCall}
use Rattle.asp_book.specs.Replies.{taken, taken_this, divided}
use Rattle.asp_book.proofs.CallLaws.{lawful-rest, task-stays, seen-after, lawful-after}
use Rattle.asp_pool.specs.Pools.{IsOfPool}
use Rattle.asp_slots.specs.Shelves.{ReadsOn}
use Rattle.asp_slots.proofs.ShelfLaws.{stays-self, stays-trans, reads-self, reads-trans, at-on}
use Rattle.asp_worker.specs.declared.worker.Worker.{Worker}
use Rattle.asp_worker.specs.declared.worker.Shared.{Shared}
use Rattle.asp_worker.specs.declared.find.Sight.{Sight}
use Rattle.asp_worker.specs.Seats.{IsRun, IsSettled, IsTidy, OwnAre, Behaves, Passes, Idles, Leases, IsFree, Holds, HoldsHalf, Sees, Takes, IsPlaced, IsReady, Keeps}
use Rattle.asp_worker.proofs.OwnLaws.{behaves-call}

Spares-self : (n : ℕ) (b : Board) → Spares n b b
Spares-self n b = record { leaves = λ leaf h. refl; count = refl; units = refl }

Spares-trans : (n : ℕ) (a b c : Board) → Spares n a b → Spares n b c → Spares n a c
Spares-trans n a b c s t = record {
  leaves = λ leaf h. t.leaves leaf (ap (λ (x : Node). x.status) (s.leaves leaf h) ∙ h) ∙ s.leaves leaf h;
  count = t.count ∙ s.count;
  units = t.units ∙ s.units;
}

-- ---- what goes from call to call
pub settled-on : (v w : Knows) → IsSettled v → Stays v w → IsJournalOf (task_of w) w.seen → IsSettled w
settled-on v w s stays lawful = record {
  seated = record {
    about = stays.about ∙ s.seated.about ∙ ap (λ (t : Task). Some t) (sym (task-stays v w stays));
    rests = stays.rests;
    lawful = lawful;
  };
  run = subst IsRun (sym (task-stays v w stays)) s.run;
}

pub behaves-self : (v : Knows) → IsSettled v → Behaves v v
behaves-self v s = record { journal = s.seated.lawful; tidy = λ t. t }

behaves-trans : (u v w : Knows) → Behaves u v → Behaves v w → Behaves u w
behaves-trans u v w b c = record { journal = c.journal; tidy = λ t. c.tidy (b.tidy t) }

pub idles-self : (v : Knows) → IsSettled v → Idles v v
idles-self v s = record { stays = stays-self v s.seated.rests; lawful = behaves-self v s; grows = Grows-itself (seen_board v); spares = Spares-self v.number (seen_board v) }

pub idles-trans : (u v w : Knows) → Idles u v → Idles v w → Idles u w
idles-trans u v w i j = record {
  stays = stays-trans u v w i.stays j.stays;
  lawful = behaves-trans u v w i.lawful j.lawful;
  grows = Grows-trans (seen_board u) (seen_board v) (seen_board w) i.grows j.grows;
  spares = Spares-trans u.number (seen_board u) (seen_board v) (seen_board w) i.spares (subst (λ n. Spares n (seen_board v) (seen_board w)) i.stays.number j.spares);
}

pub idles-passes : (v w : Knows) → Idles v w → Passes v w
idles-passes v w i = record { stays = i.stays; lawful = i.lawful; grows = i.grows; units = i.spares.units }

pub idles-leases : (v w : Knows) → Idles v w → Leases v w
idles-leases v w i = record { stays = i.stays; lawful = i.lawful; grows = i.grows; leaves = i.spares.leaves }

pub passes-self : (v : Knows) → IsSettled v → Passes v v
passes-self v s = idles-passes v v (idles-self v s)

pub passes-trans : (u v w : Knows) → Passes u v → Passes v w → Passes u w
passes-trans u v w p q = record {
  stays = stays-trans u v w p.stays q.stays;
  lawful = behaves-trans u v w p.lawful q.lawful;
  grows = Grows-trans (seen_board u) (seen_board v) (seen_board w) p.grows q.grows;
  units = subst (λ n. out_of (seen_board w).out n ≡ out_of (seen_board v).out n) p.stays.number q.units ∙ p.units;
}

pub settled-idles : (v w : Knows) → IsSettled v → Idles v w → IsSettled w
settled-idles v w s i = settled-on v w s i.stays i.lawful.journal

pub settled-passes : (v w : Knows) → IsSettled v → Passes v w → IsSettled w
settled-passes v w s i = settled-on v w s i.stays i.lawful.journal

pub settled-leases : (v w : Knows) → IsSettled v → Leases v w → IsSettled w
settled-leases v w s i = settled-on v w s i.stays i.lawful.journal

pub free-idles : (v w : Knows) → IsFree v → Idles v w → IsFree w
free-idles v w free i = ap (λ n. held_by n (seen_board w).nodes) i.stays.number ∙ i.spares.count ∙ free

-- the leaf is as it was
pub node-idles : (v w : Knows) (leaf : ℕ) → Holds v leaf → Idles v w → slice_index_or (seen_board w).nodes leaf nowhere ≡ slice_index_or (seen_board v).nodes leaf nowhere
node-idles v w leaf held i = i.spares.leaves leaf held

pub holds-leases : (v w : Knows) (leaf : ℕ) → Holds v leaf → Leases v w → Holds w leaf
holds-leases v w leaf held i = ap (λ (x : Node). x.status) (i.leaves leaf held) ∙ held ∙ ap status.Held (sym i.stays.number)

pub holds-idles : (v w : Knows) (leaf : ℕ) → Holds v leaf → Idles v w → Holds w leaf
holds-idles v w leaf held i = holds-leases v w leaf held (idles-leases v w i)

pub cube-leases : (v w : Knows) (leaf : ℕ) → Holds v leaf → Leases v w → cube_of (seen_board w).nodes leaf ≡ cube_of (seen_board v).nodes leaf
cube-leases v w leaf held i = ap (λ (x : Node). x.cube) (i.leaves leaf held)

pub cube-idles : (v w : Knows) (leaf : ℕ) → Holds v leaf → Idles v w → cube_of (seen_board w).nodes leaf ≡ cube_of (seen_board v).nodes leaf
cube-idles v w leaf held i = cube-leases v w leaf held (idles-leases v w i)

-- ---- the board that a seat has seen
pub board-task : (v : Knows) → (seen_board v).task ≡ task_of v
board-task v = task-run (start (task_of v)) v.seen

pub settled-board : (v : Knows) → IsSettled v → IsBoard (seen_board v)
settled-board v s = IsBoard-replay (task_of v) v.seen s.run.query s.seated.lawful

-- ---- one call
lawful-first : (b : Board) (xs ys : List Event) → IsLawful b (xs ++ ys) → IsLawful b xs
lawful-first b [] ys h = tt
lawful-first b (e ∷ xs) ys h = (h.0, lawful-first (happens b e) xs ys h.1)

module _ (v w : Knows) (before : List Event) (stays : Stays v w) where
  -- it added nothing
  pub idles-call : IsCall v w before [] → Idles v w
  idles-call call =
      let now : seen_board w ≡ replay (task_of v) before = seen-after v w before [] stays call in
      record {
        stays = stays;
        lawful = behaves-call v w before [] stays call tt;
        grows = subst (Grows (seen_board v)) (sym now) call.grown;
        spares = subst (Spares v.number (seen_board v)) (sym now) call.spared;
      }

  -- it added one event
  module _ (e : Event) (call : IsCall v w before (e ∷ [])) where
    pub guard-was : Guard (replay (task_of v) before) e
    guard-was = (lawful-rest (start (task_of v)) before (e ∷ []) call.moment.keeps).0

    pub board-then : IsRun (task_of v) → IsBoard (replay (task_of v) before)
    board-then run = IsBoard-replay (task_of v) before run.query (lawful-first (start (task_of v)) before (e ∷ []) call.moment.keeps)

    pub board-now : seen_board w ≡ happens (replay (task_of v) before) e
    board-now = seen-after v w before (e ∷ []) stays call

    pub grows-now : Grows (seen_board v) (seen_board w)
    grows-now = subst (Grows (seen_board v)) (sym board-now)
        (Grows-trans (seen_board v) (replay (task_of v) before) (happens (replay (task_of v) before) e) call.grown (Grows-happens (replay (task_of v) before) e guard-was))

    pub lawful-now : IsJournalOf (task_of w) w.seen
    lawful-now = lawful-after v w before (e ∷ []) stays call

    behaves-now : IsTidy e → Behaves v w
    behaves-now tidy = behaves-call v w before (e ∷ []) stays call (λ _. tidy, tt)

    -- which left the units of the number alone
    pub passes-now : IsTidy e → out_of (happens (replay (task_of v) before) e).out v.number ≡ out_of (replay (task_of v) before).out v.number → Passes v w
    passes-now tidy same = record {
      stays = stays;
      lawful = behaves-now tidy;
      grows = grows-now;
      units = ap (λ (b : Board). out_of b.out v.number) board-now ∙ same ∙ call.spared.units;
    }

    -- which left leaves and units alone
    pub idles-now : IsTidy e → (happens (replay (task_of v) before) e).nodes ≡ (replay (task_of v) before).nodes →
        (happens (replay (task_of v) before) e).out ≡ (replay (task_of v) before).out → Idles v w
    idles-now tidy nodes out = record {
      stays = stays;
      lawful = behaves-now tidy;
      grows = grows-now;
      spares = record {
        leaves = λ leaf h. ap (λ (b : Board). slice_index_or b.nodes leaf nowhere) board-now ∙ ap (λ (ns : List Node). slice_index_or ns leaf nowhere) nodes ∙ call.spared.leaves leaf h;
        count = ap (λ (b : Board). held_by v.number b.nodes) board-now ∙ ap (held_by v.number) nodes ∙ call.spared.count;
        units = ap (λ (b : Board). out_of b.out v.number) board-now ∙ ap (λ (o : List (ℕ × ℕ)). out_of o v.number) out ∙ call.spared.units;
      };
    }

    -- which left leaves alone
    pub leases-now : IsTidy e → (happens (replay (task_of v) before) e).nodes ≡ (replay (task_of v) before).nodes → Leases v w
    leases-now tidy nodes = record {
      stays = stays;
      lawful = behaves-now tidy;
      grows = grows-now;
      leaves = λ leaf h. ap (λ (b : Board). slice_index_or b.nodes leaf nowhere) board-now ∙ ap (λ (ns : List Node). slice_index_or ns leaf nowhere) nodes ∙ call.spared.leaves leaf h;
    }

-- ---- a leaf is taken, or given up
status-set : (nodes : List Node) (n : ℕ) (s : Status) → n < length nodes → status_of (with_status nodes n s) n ≡ s
status-set nodes n s lt = ap (λ (x : Node). x.status) (get_or-set_same nodes n (record { cube = cube_of nodes n; status = s }) nowhere lt)

-- it holds one less
given-up : (s : ℕ) (b : Board) (n : ℕ) (new : Status) → IsBoard b → status_of b.nodes n ≡ status.Held s → is_held_by s new ≡ false → held_by s (with_status b.nodes n new) ≡ 0
given-up s b n new is held none =
    let lt : n < length b.nodes = leaf-within b.nodes n (ap is_leaf held) in
    let one : cond (is_held_by s (status_of b.nodes n)) 1 0 ≡ 1 = ap (λ (x : Status). let k : ℕ = cond (is_held_by s x) 1 0 in k) held ∙ ap (λ x. let k : ℕ = cond x 1 0 in k) (eq-eqb s s refl) in
    let no : cond (is_held_by s new) 1 0 ≡ 0 = ap (λ x. let k : ℕ = cond x 1 0 in k) none in
    let all : held_by s (with_status b.nodes n new) + cond (is_held_by s (status_of b.nodes n)) 1 0 ≡ held_by s b.nodes + cond (is_held_by s new) 1 0 = held-changed s b.nodes n new lt in
    let few : held_by s b.nodes ≤ 1 = is.apart s in
    omega (arith, one, no, all, few)

module _ (v w : Knows) (before : List Event) (stays : Stays v w) (leaf : ℕ) where
  pub holds-taken : IsCall v w before (event.Take v.number leaf ∷ []) → Holds w leaf
  holds-taken call =
      let b : Board = replay (task_of v) before in
      let open_leaf : status_of b.nodes leaf ≡ status.Open = (guard-was v w before stays (event.Take v.number leaf) call).0 in
      ap (λ (c : Board). status_of c.nodes leaf) (board-now v w before stays (event.Take v.number leaf) call)
      ∙ status-set b.nodes leaf (status.Held v.number) (leaf-within b.nodes leaf (ap is_leaf open_leaf))
      ∙ ap status.Held (sym stays.number)

  pub passes-taken : IsCall v w before (event.Take v.number leaf ∷ []) → Passes v w
  passes-taken call = passes-now v w before stays (event.Take v.number leaf) call (tt, λ r. r) refl

  pub free-released : IsRun (task_of v) → IsCall v w before (event.Release v.number leaf ∷ []) → IsFree w
  free-released run call =
      let b : Board = replay (task_of v) before in
      ap (λ n. held_by n (seen_board w).nodes) stays.number
      ∙ ap (λ (c : Board). held_by v.number c.nodes) (board-now v w before stays (event.Release v.number leaf) call)
      ∙ given-up v.number b leaf status.Open (board-then v w before stays (event.Release v.number leaf) call run) (guard-was v w before stays (event.Release v.number leaf) call) refl

  module _ (nogood : List Literal) (call : IsCall v w before (event.Close v.number leaf nogood ∷ [])) where
    pub free-closed : IsRun (task_of v) → IsFree w
    free-closed run =
        let b : Board = replay (task_of v) before in
        ap (λ n. held_by n (seen_board w).nodes) stays.number
        ∙ ap (λ (c : Board). held_by v.number c.nodes) (board-now v w before stays (event.Close v.number leaf nogood) call)
        ∙ given-up v.number b leaf status.Closed (board-then v w before stays (event.Close v.number leaf nogood) call run) (guard-was v w before stays (event.Close v.number leaf nogood) call).0 refl

    pub passes-closed : Passes v w
    passes-closed = passes-now v w before stays (event.Close v.number leaf nogood) call (tt, λ r. r) refl

  -- the leaf is split: the first half is held as the leaf was
  module _ (l : Literal) (call : IsCall v w before (event.Split v.number leaf l ∷ [])) where
    first-half : (nodes : List Node) → slice_index_or (split nodes leaf l) (length nodes) nowhere ≡ record { cube = cube_of nodes leaf ++ l ∷ []; status = status_of nodes leaf }
    first-half nodes =
        let ws : List Node = with_status nodes leaf status.Forked in
        let len : length ws ≡ length nodes = length-set nodes leaf (record { cube = cube_of nodes leaf; status = status.Forked }) in
        let at : length nodes ≡ length ws + 0 = omega (arith, len) in
        ap (λ n. slice_index_or (split nodes leaf l) n nowhere) at
        ∙ get_or-append-add ws (record { cube = cube_of nodes leaf ++ l ∷ []; status = status_of nodes leaf } ∷ record
        { cube = cube_of nodes leaf ++ complement l ∷ []; status = status.Open } ∷ []) 0 nowhere

    pub passes-split : Passes v w
    passes-split = passes-now v w before stays (event.Split v.number leaf l) call (tt, λ r. r) refl

    pub half-held : Holds w (length (replay (task_of v) before).nodes)
    half-held =
        let b : Board = replay (task_of v) before in
        ap (λ (c : Board). status_of c.nodes (length b.nodes)) (board-now v w before stays (event.Split v.number leaf l) call)
        ∙ ap (λ (x : Node). x.status) (first-half b.nodes)
        ∙ (guard-was v w before stays (event.Split v.number leaf l) call).0
        ∙ ap status.Held (sym stays.number)

    pub half-cube : Holds v leaf → cube_of (seen_board w).nodes (length (replay (task_of v) before).nodes) ≡ cube_of (seen_board v).nodes leaf ++ l ∷ []
    half-cube held =
        let b : Board = replay (task_of v) before in
        ap (λ (c : Board). cube_of c.nodes (length b.nodes)) (board-now v w before stays (event.Split v.number leaf l) call)
        ∙ ap (λ (x : Node). x.cube) (first-half b.nodes)
        ∙ ap (λ (x : Node). x.cube ++ l ∷ []) (call.spared.leaves leaf held)

-- ---- the worker
pub keeps-self : (c : Shared) (h : Worker) → IsReady c h → Keeps h h
keeps-self c h r = record { book = refl; seat = stays-self (view h.seat) r.settled.seated.rests; pages = reads-self c.log h.pages r.log }

pub keeps-trans : (h k l : Worker) → Keeps h k → Keeps k l → Keeps h l
keeps-trans h k l p q = record {
  book = q.book ∙ p.book;
  seat = stays-trans (view h.seat) (view k.seat) (view l.seat) p.seat q.seat;
  pages = reads-trans h.pages k.pages l.pages p.pages q.pages;
}

-- the worker still shares these, with another seat at the book
pub placed-seat : (c : Shared) (h k : Worker) → IsPlaced c h → Keeps h k → IsOfPool c.pool k.pass → IsJournalOf (task_of (view k.seat)) (view k.seat).seen → IsPlaced c k
placed-seat c h k r s pool lawful = record {
  book = s.book ∙ r.book;
  log = at-on c.log h.pages k.pages r.log s.pages;
  program = r.program ∙ ap (λ (t : Task). t.program) (sym (task-stays (view h.seat) (view k.seat) s.seat));
  pool = pool;
  settled = settled-on (view h.seat) (view k.seat) r.settled s.seat lawful;
}

pub ready-placed : (c : Shared) (h : Worker) → IsReady c h → IsPlaced c h
ready-placed c h r = record { book = r.book; log = r.log; program = r.program; pool = r.pool; settled = r.settled }

pub placed-ready : (c : Shared) (h : Worker) → IsPlaced c h → OwnAre IsTidy (view h.seat) → IsReady c h
placed-ready c h r tidy = record { book = r.book; log = r.log; program = r.program; pool = r.pool; settled = r.settled; tidy = tidy }

-- it is ready still
pub ready-seat : (c : Shared) (h k : Worker) → IsReady c h → Keeps h k → IsOfPool c.pool k.pass → Behaves (view h.seat) (view k.seat) → IsReady c k
ready-seat c h k r s pool b = placed-ready c k (placed-seat c h k (ready-placed c h r) s pool b.journal) (b.tidy r.tidy)

-- ---- what a number that looked for a path has
pub takes-some : (v : Knows) (o : Option ℕ) (leaf : ℕ) → Takes v (Ok o) → o ≡ Some leaf → Holds v leaf
takes-some v o leaf h e = subst (λ (x : Option ℕ). Takes v (Ok x)) e h

pub takes-none : (v : Knows) (o : Option ℕ) → Takes v (Ok o) → o ≡ None → IsFree v
takes-none v o h e = subst (λ (x : Option ℕ). Takes v (Ok x)) e h

module _ (v w : Knows) (stays : Stays v w) where
  pub none-idles : (call : (before : List Event) × IsCall v w before []) → Idles v w
  none-idles call = idles-call v w call.0 stays call.1

  pub none-free : IsFree v → (call : (before : List Event) × IsCall v w before []) → IsFree w
  none-free free call = free-idles v w free (none-idles call)

  module _ (before : List Event) (leaf : ℕ) where
    pub this-passes : (r : Bool) → IsCall v w before (taken_this v.number leaf r) → Passes v w
    this-passes true call = passes-taken v w before stays leaf call
    this-passes false call = idles-passes v w (idles-call v w before stays call)

    pub this-holds : (r : Bool) → r ≡ true → IsCall v w before (taken_this v.number leaf r) → Holds w leaf
    this-holds true e call = holds-taken v w before stays leaf call
    this-holds false e call = absurd (false≢true e)

    pub this-free : (r : Bool) → r ≡ false → IsFree v → IsCall v w before (taken_this v.number leaf r) → IsFree w
    this-free true e free call = absurd (false≢true (sym e))
    this-free false e free call = free-idles v w free (idles-call v w before stays call)

  -- whatever leaf was open, if one was
  pub reply-taken : IsFree v → (before : List Event) (r : Option ℕ) → IsCall v w before (taken v.number r) → Passes v w × Takes w (Ok r)
  reply-taken free before (Some leaf) call = (passes-taken v w before stays leaf call, holds-taken v w before stays leaf call)
  reply-taken free before None call = (idles-passes v w (idles-call v w before stays call), free-idles v w free (idles-call v w before stays call))

-- ---- a path is divided
module _ (v w : Knows) (stays : Stays v w) (leaf : ℕ) (l : Literal) (held : Holds v leaf) where
  pub divided-passes : (before : List Event) (r : Option (ℕ × ℕ)) → IsCall v w before (divided v.number leaf l r) → Passes v w
  divided-passes before None call = idles-passes v w (idles-call v w before stays call)
  divided-passes before (Some leaves) call = passes-split v w before stays leaf l call

  pub divided-none : (before : List Event) (r : Option (ℕ × ℕ)) → r ≡ None → IsCall v w before (divided v.number leaf l r) →
      slice_index_or (seen_board w).nodes leaf nowhere ≡ slice_index_or (seen_board v).nodes leaf nowhere
  divided-none before r e call =
      node-idles v w leaf held (idles-call v w before stays (subst (λ (x : Option (ℕ × ℕ)). IsCall v w before (divided v.number leaf l x)) e call))

  pub divided-some : (before : List Event) (r : Option (ℕ × ℕ)) (half other : ℕ) → r ≡ Some (half, other) →
      IfSome r (λ (x : ℕ × ℕ). x ≡ (length (replay (task_of v) before).nodes, length (replay (task_of v) before).nodes + 1)) →
      IsCall v w before (divided v.number leaf l r) →
      Holds w half × (cube_of (seen_board w).nodes half ≡ cube_of (seen_board v).nodes leaf ++ l ∷ [])
  divided-some before r half other e at call =
      let n : ℕ = length (replay (task_of v) before).nodes in
      let both : (half, other) ≡ (n, n + 1) = subst (λ (x : Option (ℕ × ℕ)). IfSome x (λ (y : ℕ × ℕ). y ≡ (n, n + 1))) e at in
      let is : half ≡ n = ap (λ (y : ℕ × ℕ). y.0) both in
      let call' : IsCall v w before (event.Split v.number leaf l ∷ []) = subst (λ (x : Option (ℕ × ℕ)). IsCall v w before (divided v.number leaf l x)) e call in (
        ap (λ k. status_of (seen_board w).nodes k) is ∙ half-held v w before stays leaf l call',
        ap (λ k. cube_of (seen_board w).nodes k) is ∙ half-cube v w before stays leaf l call' held,
      )

pub takes-not : (v : Knows) (o : Option ℕ) → Takes v (Ok o) → is_some o ≡ false → IsFree v
takes-not v None h e = h
takes-not v (Some leaf) h e = absurd (false≢true (sym e))

-- ---- a path is closed, or was not for want of memory
module _ (v w : Knows) (stays : Stays v w) (leaf : ℕ) (nogood : List Literal) (run : IsRun (task_of v)) (held : Holds v leaf) where
  pub closed-by : {A : Type 0} (r : Result A AllocError) →
      OnOk r ((before : List Event) × IsCall v w before (event.Close v.number leaf nogood ∷ [])) →
      OnErr r ((before : List Event) × IsCall v w before []) →
      Passes v w × OnOk r (IsFree w) × OnErr r (Holds w leaf)
  closed-by (Ok x) ok err = (passes-closed v w ok.0 stays leaf nogood ok.1, free-closed v w ok.0 stays leaf nogood ok.1 run, tt)
  closed-by (Err e) ok err = (idles-passes v w (none-idles v w stays err), tt, holds-idles v w leaf held (none-idles v w stays err))

-- ---- what a path's literals are
pub cube-vars : (v : Knows) (leaf : ℕ) → IsSettled v → Holds v leaf → All (λ (l : Literal). IsVar (var_count (task_of v).program) l.var) (cube_of (seen_board v).nodes leaf)
cube-vars v leaf s held =
    let b : Board = seen_board v in
    subst (λ (t : Task). All (λ (l : Literal). IsVar (var_count t.program) l.var) (cube_of (seen_board v).nodes leaf)) (board-task v)
    (cube-at b.task b.nodes leaf (leaf-within b.nodes leaf (ap is_leaf held)) (settled-board v s).cubes).variables

-- ---- the same worker with another seat at the book
pub keeps-seat : (c : Shared) (h k : Worker) → IsReady c h → IsBeside h.seat k.seat → Stays (view h.seat) (view k.seat) → k.pages ≡ h.pages → Keeps h k
keeps-seat c h k r book stays same = record {
  book = book;
  seat = stays;
  pages = subst (ReadsOn h.pages) (sym same) (reads-self c.log h.pages r.log);
}

pub keeps-pages : (c : Shared) (h k : Worker) → IsReady c h → ReadsOn h.pages k.pages → k.seat ≡ h.seat → Keeps h k
keeps-pages c h k r on same = record {
  book = ap (λ s. s.token.table_id) same;
  seat = subst (λ s. Stays (view h.seat) (view s)) (sym same) (stays-self (view h.seat) r.settled.seated.rests);
  pages = on;
}

-- ---- after want of memory
pub takes-err : (v : Knows) (r : Result (Option ℕ) AllocError) → IsErr r → IsFree v → Takes v r
takes-err v (Ok o) e free = absurd (false≢true e)
takes-err v (Err x) e free = free

pub sees-err : (begun : List Event) (v : Knows) (r : Result Sight AllocError) → IsErr r → IsFree v → Sees begun v r
sees-err begun v (Ok o) e free = absurd (false≢true e)
sees-err begun v (Err x) e free = free

pub half-err : (v w : Knows) (leaf : ℕ) (l : Literal) (r : Result (Option ℕ) AllocError) → IsErr r → Holds w leaf → HoldsHalf v w leaf l r
half-err v w leaf l (Ok o) e held = absurd (false≢true e)
half-err v w leaf l (Err x) e held = held

pub half-none : (v w : Knows) (leaf : ℕ) (l : Literal) (o : Option ℕ) → HoldsHalf v w leaf l (Ok o) → o ≡ None →
    slice_index_or (seen_board w).nodes leaf nowhere ≡ slice_index_or (seen_board v).nodes leaf nowhere
half-none v w leaf l o h e = subst (λ (x : Option ℕ). HoldsHalf v w leaf l (Ok x)) e h

pub half-some : (v w : Knows) (leaf : ℕ) (l : Literal) (o : Option ℕ) (half : ℕ) → HoldsHalf v w leaf l (Ok o) → o ≡ Some half → Holds w half
half-some v w leaf l o half h e = (subst (λ (x : Option ℕ). HoldsHalf v w leaf l (Ok x)) e h).0
