-- A worker's search beside the board once an answer was recorded, or units were leased.
use Rattle.std.proofs.Common.{◌≡◌, ℕ, ◌+◌, ◌-◌, ◌^◌, ◌<◌, ◌≤◌, Bool, true, false, not, ◌||◌, cond, eqb, min, max, List, [], ◌∷◌, ◌++◌, Option, Some, None, inl, inr, refl, sym, ap, ◌∙◌, subst, arith}
use Rattle.std.specs.Prelude.{ℤ, IsTrue, option_map}
use Rattle.std.specs.Option.{IfSome}
use Rattle.std.specs.List.{list_any}
use Rattle.std.proofs.lemmas.Bool.{eqb-true, false≢true}
use Rattle.asp_model.specs.declared.program.Program.{Program}
use Rattle.asp_model.specs.declared.results.Mode.{Mode}
use Rattle.asp_model.specs.declared.results.Mode.TheVariants.{Enum, Opt, Consequences}
use Rattle.asp_model.specs.Asked.{reasoning_of}
use Rattle.asp_model.specs.Consequences.{common_sets, used_up}
use Rattle.asp_model.specs.Models.{is_stable}
use Rattle.asp_model.specs.Sets.{Atoms, same_set}
use Rattle.asp_model.specs.Costs.{cost, betters}
use Rattle.asp_vars.specs.Entailment.{costs_bound}
use Rattle.asp_vars.specs.Literals.{hits}
use Rattle.asp_vars.specs.Numbering.{values}
use Rattle.asp_vars.specs.Paid.{Units, least_of}
use Rattle.asp_vault.specs.Moments.{Stays}
use Rattle.asp_path.specs.Trees.{is_leaf, cube_of}
use Rattle.asp_path.proofs.TreeLaws.{leaf-within}
use Rattle.asp_core.specs.declared.event.Event.{Event}
use Rattle.asp_core.specs.declared.event.Event.TheVariants as event
use Rattle.asp_core.specs.declared.task.Task.{Task}
use Rattle.asp_core.specs.Units.{out_of}
use Rattle.asp_core.specs.Boards.{Board, start, lists, is_answer, optimises, sought}
use Rattle.asp_core.specs.Events.{happens, replay}
use Rattle.asp_core.specs.Growth.{Grows}
use Rattle.asp_core.proofs.BoardLaws.{wanted-stand}
use Rattle.asp_core.proofs.CubeLaws.{cube-at, answer-in_cube}
use Rattle.asp_core.proofs.GrowthLaws.{Grows-itself}
use Rattle.asp_core.proofs.ResultLaws.{task-run}
use Rattle.asp_core.proofs.UnitLaws.{out_of-le-total}
use Rattle.asp_book.specs.Calls.{Knows, task_of, seen_board, IsCall}
use Rattle.asp_book.specs.Fuels.{Fits}
use Rattle.asp_book.specs.Replies.{Improves, delivered, improved, leased_out}
use Rattle.asp_book.proofs.CallLaws.{task-stays, seen-after}
use Rattle.asp_propagate.specs.Useful.{IsSmaller}
use Rattle.asp_search_laws.specs.Searching.{Searching}
use Rattle.asp_search_laws.specs.Steps.{Records}
use Rattle.asp_crew_laws.specs.Runs.{is_opt}
use Rattle.asp_crew_laws.specs.Working.{IsAtWork, IsSought}
use Rattle.asp_crew_laws.proofs.WorkLaws.{work-on, work-delivered, work-improved, work-unimproved, work-leased, work-told, out_of-leased, Fits-merged, may-list, may-optimise, may-tell}
use Rattle.asp_worker.specs.Seats.{IsRun, IsSettled, Idles, Leases, WasEmpty}
use Rattle.asp_worker.specs.Sharing.{lowered}
use Rattle.asp_worker.specs.Working.{GoesOn, Finds}
use Rattle.asp_worker.proofs.OwnLaws.{was-call}
use Rattle.asp_worker.proofs.SeatLaws.{board-task, settled-board, settled-leases, guard-was, board-now, idles-call, idles-now, leases-now, idles-leases}
use Rattle.asp_worker.proofs.GoingLaws.{lowered-goes}

-- ---- what is found is an answer
-- the search is one of the board's program
pub found-program : (m : Mode) (v : Knows) (s t : Searching) (u : Units) (leaf : ℕ) (S : Atoms) → Finds m v s t u leaf S → t.program ≡ (seen_board v).task.program
found-program m v s t u leaf S f = f.program ∙ f.on.going.program ∙ ap (λ (x : Task). x.program) (sym (board-task v))

-- an enumeration doesn't optimise
pub listing-enum : (m : Mode) → m ≡ Enum → is_opt m ≡ false
listing-enum m e = ap is_opt e

-- an enumeration doesn't seek consequences
pub sought-none : (m : Mode) (v : Knows) (s t : Searching) (u : Units) (leaf : ℕ) (S : Atoms) → m ≡ Enum → Finds m v s t u leaf S → sought (seen_board v).task.goal ≡ None
sought-none m v s t u leaf S e f =
    let is : IsSought Enum s.bound (seen_board v).task.goal = subst (λ (k : Mode). IsSought k s.bound (seen_board v).task.goal) e f.on.going.work.goal in
    elim is [ inl g ↦ ap sought g | inr g ↦ ap sought g ]

pub is-answer : (m : Mode) (v : Knows) (s t : Searching) (u : Units) (leaf : ℕ) (S : Atoms) → IsSettled v → Finds m v s t u leaf S → IsTrue (is_answer (seen_board v).task S)
is-answer m v s t u leaf S set f =
    let b : Board = seen_board v in
    let same : s.program ≡ b.task.program = f.on.going.program ∙ ap (λ (x : Task). x.program) (sym (board-task v)) in
    let run : IsRun b.task = subst IsRun (sym (board-task v)) set.run in
    answer-in_cube b.task (cube_of b.nodes leaf) S (wanted-stand b.task run.query)
    (cube-at b.task b.nodes leaf (leaf-within b.nodes leaf (ap is_leaf f.on.works.held)) (settled-board v set).cubes)
    (subst (λ (p : Program). IsTrue (is_stable p S)) same f.stable)
    (subst (λ (p : Program). IsTrue (hits (values p S) (cube_of b.nodes leaf))) same f.hit)

pub not-dear : (p : Program) (c : Option (List ℤ)) (S : Atoms) → IsSmaller (cost p S) c → costs_bound p c S ≡ false
not-dear p None S less = refl
not-dear p (Some d) S less = ap not less

-- in an enumeration and in a search for consequences it may be delivered
pub is-listed : (m : Mode) (v : Knows) (s t : Searching) (u : Units) (leaf : ℕ) (S : Atoms) → is_opt m ≡ false → Finds m v s t u leaf S → IsTrue (lists (seen_board v).task S)
is-listed Enum v s t u leaf S listing f =
    let same : s.program ≡ (seen_board v).task.program = f.on.going.program ∙ ap (λ (x : Task). x.program) (sym (board-task v)) in
    may-list (seen_board v).task s.bound S f.on.going.work.goal (subst (λ (p : Program). costs_bound p s.bound S ≡ false) same (not-dear s.program s.bound S f.cheaper))
is-listed Opt v s t u leaf S listing f = absurd (false≢true (sym listing))
is-listed (Consequences r) v s t u leaf S listing f = may-tell (seen_board v).task r s.bound S f.on.going.work.goal

pub is-sought : (v : Knows) (s t : Searching) (u : Units) (leaf : ℕ) (S : Atoms) → Finds Opt v s t u leaf S → IsTrue (optimises (seen_board v).task.goal)
is-sought v s t u leaf S f = may-optimise (seen_board v).task f.on.going.work.goal

-- the search that knows the answer, where it goes with the board
goes-with : (m : Mode) (v w : Knows) (s t : Searching) (u : Units) (leaf : ℕ) (S : Atoms) (b : Board) → Finds m v s t u leaf S → Stays v w →
    seen_board w ≡ b → IsAtWork b v.number m t.known t.bound u → GoesOn m w t u
goes-with m v w s t u leaf S b f stays now work = record {
  program = f.program ∙ f.on.going.program ∙ ap (λ (x : Task). x.program) (sym (task-stays v w stays));
  mode_is = f.mode_is ∙ f.on.going.mode_is;
  work = subst (λ n. IsAtWork (seen_board w) n m t.known t.bound u) (sym stays.number) (subst (λ (c : Board). IsAtWork c v.number m t.known t.bound u) (sym now) work);
  few = f.on.going.few;
}

module _ (v w : Knows) (before : List Event) (stays : Stays v w) (s t : Searching) (u : Units) (leaf : ℕ) (S : Atoms) where
  at-moment : (m : Mode) (added : List Event) → IsCall v w before added → Finds m v s t u leaf S → IsAtWork (replay (task_of v) before) v.number m s.known s.bound u
  at-moment m added call f = work-on (seen_board v) (replay (task_of v) before) v.number m s.known s.bound u f.on.going.work call.grown call.spared.units

  program-then : (m : Mode) → Finds m v s t u leaf S → s.program ≡ (replay (task_of v) before).task.program
  program-then m f = f.on.going.program ∙ ap (λ (x : Task). x.program) (sym (task-run (start (task_of v)) before))

  -- ---- where answers are delivered
  records-in : (m : Mode) → Finds m v s t u leaf S → Records m s t (cube_of (seen_board v).nodes leaf) S
  records-in m f = subst (λ (k : Mode). Records k s t (cube_of (seen_board v).nodes leaf) S) f.on.going.mode_is f.records

  new-in : (m : Mode) → Finds m v s t u leaf S → list_any (same_set S) (used_up (reasoning_of m) s.program s.known) ≡ false
  new-in m f = ap (λ (k : Mode). list_any (same_set S) (used_up (reasoning_of k) s.program s.known)) (sym f.on.going.mode_is) ∙ f.new

  delivered-in : (m : Mode) → is_opt m ≡ false → Finds m v s t u leaf S → IsCall v w before (event.Deliver v.number S ∷ []) →
      IsAtWork (happens (replay (task_of v) before) (event.Deliver v.number S)) v.number m t.known t.bound u
  delivered-in Enum listing f call =
      let b : Board = replay (task_of v) before in
      let r = records-in Enum f in
      subst (λ (k : List Atoms). IsAtWork (happens b (event.Deliver v.number S)) v.number Enum k t.bound u) (sym r.0)
      (subst (λ (o : Option (List ℤ)). IsAtWork (happens b (event.Deliver v.number S)) v.number Enum (s.known ++ S ∷ []) o u) (sym r.1)
      (work-delivered b v.number S s.known s.bound u (at-moment Enum (event.Deliver v.number S ∷ []) call f) (guard-was v w before stays (event.Deliver v.number S) call) (new-in Enum f)))
  delivered-in Opt listing f call = absurd (false≢true (sym listing))
  delivered-in (Consequences k) listing f call =
      let b : Board = replay (task_of v) before in
      let r = records-in (Consequences k) f in
      subst (λ (K : List Atoms). IsAtWork (happens b (event.Deliver v.number S)) v.number (Consequences k) K t.bound u)
      (sym (r.0 ∙ ap (λ (p : Program). common_sets k p (s.known ++ S ∷ [])) (program-then (Consequences k) f)))
      (subst (λ (o : Option (List ℤ)). IsAtWork (happens b (event.Deliver v.number S)) v.number (Consequences k) (common_sets k b.task.program (s.known ++ S ∷ [])) o u) (sym r.1)
      (work-told b v.number S k s.known s.bound u (at-moment (Consequences k) (event.Deliver v.number S ∷ []) call f) (guard-was v w before stays (event.Deliver v.number S) call)))

  module _ (m : Mode) (listing : is_opt m ≡ false) (f : Finds m v s t u leaf S) where
    goes-delivered : IsCall v w before (event.Deliver v.number S ∷ []) → GoesOn m w t u
    goes-delivered call =
        let b : Board = replay (task_of v) before in
        goes-with m v w s t u leaf S (happens b (event.Deliver v.number S)) f stays (board-now v w before stays (event.Deliver v.number S) call) (delivered-in m listing f call)

    pub delivered-goes : (r : Bool) → r ≡ true → IsCall v w before (delivered v.number S r) → GoesOn m w t u
    delivered-goes r e call = goes-delivered (subst (λ x. IsCall v w before (delivered v.number S x)) e call)

    pub delivered-idles : (r : Bool) → IsCall v w before (delivered v.number S r) → Idles v w
    delivered-idles true call = idles-now v w before stays (event.Deliver v.number S) call (tt, λ r. r) refl refl
    delivered-idles false call = idles-call v w before stays call

  -- ---- in an optimisation
  module _ (f : Finds Opt v s t u leaf S) where
    records-opt : Records Opt s t (cube_of (seen_board v).nodes leaf) S
    records-opt = subst (λ (m : Mode). Records m s t (cube_of (seen_board v).nodes leaf) S) f.on.going.mode_is f.records

    -- the search after the answer, where its bound is the answer's cost
    goes-priced : (b : Board) → seen_board w ≡ b → b.task.program ≡ s.program → IsAtWork b v.number Opt s.known (Some (cost b.task.program S)) u → GoesOn Opt w t u
    goes-priced b now same work =
        goes-with Opt v w s t u leaf S b f stays now
        (subst (λ (k : List Atoms). IsAtWork b v.number Opt k t.bound u) (sym records-opt.0)
        (subst (λ (o : Option (List ℤ)). IsAtWork b v.number Opt s.known o u) (sym records-opt.1)
        (subst (λ (p : Program). IsAtWork b v.number Opt s.known (Some (cost p S)) u) same work)))

    pub improved-goes : IsCall v w before (event.Improve v.number S ∷ []) → GoesOn Opt w t u
    improved-goes call =
        let b : Board = replay (task_of v) before in
        goes-priced (happens b (event.Improve v.number S)) (board-now v w before stays (event.Improve v.number S) call) (sym (program-then Opt f))
        (work-improved b v.number S s.known s.bound u (at-moment Opt (event.Improve v.number S ∷ []) call f) (guard-was v w before stays (event.Improve v.number S) call))

    pub improved-idles : (r : Option (List ℤ)) → IsCall v w before (improved v.number S r) → Idles v w
    improved-idles None call = idles-now v w before stays (event.Improve v.number S) call (tt, λ r. r) refl refl
    improved-idles (Some c) call = idles-call v w before stays call

    some-inj : (c d : List ℤ) → Some c ≡ Some d → c ≡ d
    some-inj c d e = cc

    -- a best stood that is no dearer: its cost is a bound as well
    pub unimproved-goes : (c : List ℤ) → seen_board w ≡ replay (task_of v) before →
        option_map (cost (replay (task_of v) before).task.program) (replay (task_of v) before).best ≡ Some c →
        betters (cost (replay (task_of v) before).task.program S) c ≡ false → IsCall v w before [] →
        GoesOn Opt w (lowered t c) u
    unimproved-goes c now best worse call = here (replay (task_of v) before).best refl best
      where
        b : Board
        b = replay (task_of v) before

        here : (o : Option Atoms) → o ≡ (replay (task_of v) before).best → option_map (cost (replay (task_of v) before).task.program) o ≡ Some c → GoesOn Opt w (lowered t c) u
        here None e h = absurd (no_some h)
          where
            no_some : None ≡ Some c → ⊥
            no_some e = cc
        here (Some B) e h =
            let is : cost (replay (task_of v) before).task.program B ≡ c = some-inj (cost (replay (task_of v) before).task.program B) c h in
            let goes : GoesOn Opt w t u = goes-priced (replay (task_of v) before) now (sym (program-then Opt f))
            (work-unimproved (replay (task_of v) before) v.number S B s.known s.bound u (at-moment Opt [] call f) (sym e)
            (ap (betters (cost (replay (task_of v) before).task.program S)) is ∙ worse)) in
            subst (λ (d : List ℤ). GoesOn Opt w (lowered t d) u) (ap (λ (x : Board). cost x.task.program B) now ∙ is) (lowered-goes w B t u (ap (λ (x : Board). x.best) now ∙ sym e) goes)

-- ---- units
abbrev pub merged : Units → Units → Units
merged u x = record { program = u.program; left = u.left + x.left; burnt = u.burnt + x.burnt; reasoned = u.reasoned || x.reasoned; known = max u.known x.known; least = least_of u.least x.least }

-- the same sum of units, otherwise spread
work-spread : (b : Board) (n : ℕ) (m : Mode) (known : List Atoms) (bound : Option (List ℤ)) (u x : Units) → IsAtWork b n m known bound u →
    x.left + x.burnt ≡ u.left + u.burnt → Fits b x → IsAtWork b n m known bound x
work-spread b n m known bound u x w sum fits = record { goal = w.goal; agrees = w.agrees; apart = w.apart; kept = w.kept; units = (fits, sum ∙ w.units.1) }

module _ (v w : Knows) (before : List Event) (stays : Stays v w) (m : Mode) (s : Searching) (u x : Units) (set : IsSettled v) (g : GoesOn m v s u)
    (is : x ≡ record { program = (replay (task_of v) before).task.program; left = min 64 (replay (task_of v) before).pool; burnt = 0; reasoned = false; known = 0; least = None }) where
  work-then : (added : List Event) → IsCall v w before added → IsAtWork (replay (task_of v) before) v.number m s.known s.bound u
  work-then added call = work-on (seen_board v) (replay (task_of v) before) v.number m s.known s.bound u g.work call.grown call.spared.units

  fits-then : (added : List Event) → IsCall v w before added → Fits (replay (task_of v) before) (merged u x)
  fits-then added call = Fits-merged (replay (task_of v) before) u x (work-then added call).units.0
      (subst (Fits (replay (task_of v) before)) (sym is) (record { program = refl; reasoned = λ e. absurd (false≢true e); known = omega arith; least = tt }))

  pub leased-program : x.program ≡ u.program
  leased-program = ap (λ (y : Units). y.program) is ∙ ap (λ (y : Task). y.program) (task-run (start (task_of v)) before ∙ sym (board-task v)) ∙ sym g.work.units.0.program

  pub leased-few : x.left ≤ 64
  leased-few = omega (arith, ap (λ (y : Units). y.left) is)

  by-left : (k : ℕ) → k ≡ x.left → (z : Bool) → z ≡ eqb k 0 → IsCall v w before (cond z [] (event.Lease v.number k ∷ [])) →
      Leases v w × (out_of (seen_board w).out v.number ≡ u.left + u.burnt + x.left) × IsAtWork (seen_board w) v.number m s.known s.bound (merged u x)
  by-left k same true q call =
      let none : x.left ≡ 0 = sym same ∙ eqb-true k 0 (sym q) in
      let idles : Idles v w = idles-call v w before stays call in
      let sum : (merged u x).left + (merged u x).burnt ≡ u.left + u.burnt = omega (arith, none, ap (λ (y : Units). y.burnt) is) in (
        idles-leases v w idles,
        (let e : out_of (seen_board w).out v.number ≡ u.left + u.burnt = idles.spares.units ∙ sym g.work.units.1 in omega (arith, e, none)),
        work-on (replay (task_of v) before) (seen_board w) v.number m s.known s.bound (merged u x)
            (work-spread (replay (task_of v) before) v.number m s.known s.bound u (merged u x) (work-then [] call) sum (fits-then [] call))
            (subst (Grows (replay (task_of v) before)) (sym (seen-none call)) (Grows-itself (replay (task_of v) before)))
            (ap (λ (y : Board). out_of y.out v.number) (seen-none call)),
      )
    where
      seen-none : IsCall v w before [] → seen_board w ≡ replay (task_of v) before
      seen-none call = seen-after v w before [] stays call
  by-left k same false q call =
      let b : Board = replay (task_of v) before in
      let e : Event = event.Lease v.number k in
      let now : seen_board w ≡ happens b e = board-now v w before stays e call in
      let sum : (merged u x).left + (merged u x).burnt ≡ u.left + u.burnt + k = omega (arith, same, ap (λ (y : Units). y.burnt) is) in
      let work : IsAtWork (happens b e) v.number m s.known s.bound (merged u x) =
      work-leased b v.number k m s.known s.bound u (merged u x) (work-then (e ∷ []) call) (guard-was v w before stays e call) sum
      (fits-then (e ∷ []) call) in (
        leases-now v w before stays e call (omega (arith, same, leased-few), λ r. r) refl,
        (let o : out_of (seen_board w).out v.number ≡ out_of b.out v.number + k = ap (λ (y : Board). out_of y.out v.number) now ∙ out_of-leased v.number k b.out in
            let p : out_of b.out v.number ≡ u.left + u.burnt = call.spared.units ∙ sym g.work.units.1 in
            omega (arith, o, p, same)),
        subst (λ (y : Board). IsAtWork y v.number m s.known s.bound (merged u x)) (sym now) work,
      )

  module _ (call : IsCall v w before (leased_out v.number x)) where
    all : Leases v w × (out_of (seen_board w).out v.number ≡ u.left + u.burnt + x.left) × IsAtWork (seen_board w) v.number m s.known s.bound (merged u x)
    all = by-left x.left refl (eqb x.left 0) refl call

    pub leased-leases : Leases v w
    leased-leases = all.0

    pub leased-goes : u.left ≡ 0 → GoesOn m w s (merged u x)
    leased-goes none = record {
      program = g.program ∙ ap (λ (y : Task). y.program) (sym (task-stays v w stays));
      mode_is = g.mode_is;
      work = subst (λ n. IsAtWork (seen_board w) n m s.known s.bound (merged u x)) (sym stays.number) all.2;
      few = omega (arith, none, leased-few);
    }

    -- none was left in the pool
    pub leased-empty : x.left ≡ 0 → WasEmpty w
    leased-empty none = was-call v w before (leased_out v.number x) stays call (λ b. b.pool ≡ 0) (omega (arith, none, ap (λ (y : Units). y.left) is))

    -- the sum of units fits
    pub leased-fits : u.left + u.burnt + x.left + x.burnt < 2 ^ 64
    leased-fits =
        let settled : IsSettled w = settled-leases v w set all.0 in
        let units = (settled-board w settled).units in
        let le = out_of-le-total v.number (seen_board w).out in
        let budget : (seen_board w).task.budget < 2 ^ 64 = subst (λ (y : Task). y.budget < 2 ^ 64) (sym (board-task w)) settled.run.budget in
        omega (arith, units, le, budget, all.1, ap (λ (y : Units). y.burnt) is)

module _ (v w : Knows) (before : List Event) (stays : Stays v w) (s t : Searching) (u : Units) (leaf : ℕ) (S : Atoms) (f : Finds Opt v s t u leaf S) where
  pub unimproved-by : (r : Option (List ℤ)) (c : List ℤ) → r ≡ Some c → Improves (replay (task_of v) before) S r → IsCall v w before (improved v.number S r) → GoesOn Opt w (lowered t c) u
  unimproved-by r c e how call =
      let call' : IsCall v w before [] = subst (λ (x : Option (List ℤ)). IsCall v w before (improved v.number S x)) e call in
      let best = subst (λ (x : Option (List ℤ)). IfSome x
      (λ (d : List ℤ). (option_map (cost (replay (task_of v) before).task.program) (replay (task_of v) before).best ≡ Some d) ×
      (betters (cost (replay (task_of v) before).task.program S) d ≡ false))) e how.best in
      unimproved-goes v w before stays s t u leaf S f c (seen-after v w before [] stays call') best.0 best.1 call'
