-- A worker's beginning and its end.
use Rattle.std.proofs.Common.{◌≡◌, inl, inr, ℕ, ◌+◌, Bool, true, false, cond, eqb, List, [], ◌∷◌, None, refl, sym, ap, ◌∙◌, subst, arith}
use Rattle.std.proofs.lemmas.Bool.{eqb-true, false≢true}
use mathlib.Core.List.{IsPrefix}
use Rattle.asp_model.specs.declared.program.Program.{Program}
use Rattle.asp_model.specs.declared.results.Mode.{Mode}
use Rattle.asp_vars.specs.Paid.{Units}
use Rattle.asp_vault.specs.Moments.{Stays}
use Rattle.asp_vault.specs.Seats.{view}
use Rattle.asp_core.specs.declared.event.Event.{Event}
use Rattle.asp_core.specs.declared.event.Event.TheVariants as event
use Rattle.asp_core.specs.declared.task.Task.{Task}
use Rattle.asp_core.specs.Boards.{Board, goal_of, is_enough}
use Rattle.asp_core.specs.Units.{out_of, returned}
use Rattle.asp_core.specs.Events.{held_by, happens, replay}
use Rattle.asp_book.specs.Calls.{Knows, task_of, seen_board, IsCall}
use Rattle.asp_book.specs.Replies.{given_back}
use Rattle.asp_search.specs.Beside.{new_search}
use Rattle.asp_search_laws.specs.Searching.{Searching}
use Rattle.asp_crew_laws.specs.Gone.{IsSmall}
use Rattle.asp_crew_laws.specs.Runs.{IsBack}
use Rattle.asp_crew_laws.proofs.WorkLaws.{work-begins}
use Rattle.asp_worker.specs.declared.worker.Worker.{Worker}
use Rattle.asp_worker.specs.declared.worker.Shared.{Shared}
use Rattle.asp_worker.specs.Seats.{IsReady, MayWork, IsSettled, IsRunOf, IsIdle, IsFree, IsTidy, Idles, Passes, HasCause, Owes, OwnAre, WasStopped}
use Rattle.asp_worker.specs.Working.{GoesOn}
use Rattle.asp_book.proofs.CallLaws.{task-stays}
use Rattle.asp_worker.proofs.OwnLaws.{By, others-own, own-weaker, own-call, quiet-call, quiet-later, was-on}
use Rattle.asp_worker.proofs.GoingLaws.{owes-by}
use Rattle.asp_worker.proofs.SeatLaws.{board-task, board-now, grows-now, lawful-now, settled-on, idles-call, free-idles, free-released, settled-idles, settled-passes, placed-ready}

-- ---- a number that has no units out
pub owes-none : (p : Program) (m : Mode) (v : Knows) (u : Units) → IsRunOf p m v → out_of (seen_board v).out v.number ≡ 0 →
    u ≡ record { program = p; left = 0; burnt = 0; reasoned = false; known = 0; least = None } → Owes v u
owes-none p m v u run home e =
    let same : (seen_board v).task.program ≡ p = ap (λ (t : Task). t.program) (board-task v) ∙ run.program in
    subst (λ (x : Units). Owes v x) (sym e) (record {
      back = (record { program = sym same; reasoned = λ e. absurd (false≢true e); known = omega arith; least = tt }, sym home);
      few = omega arith;
    })

pub run-passes : (p : Program) (m : Mode) (v w : Knows) → IsRunOf p m v → Passes v w → IsRunOf p m w
run-passes p m v w run i =
    let same : task_of w ≡ task_of v = task-stays v w i.stays in
    record { program = ap (λ (t : Task). t.program) same ∙ run.program; goal = (run.goal.0, ap (λ (t : Task). t.goal) same ∙ run.goal.1) }

pub home-passes : (v w : Knows) → out_of (seen_board v).out v.number ≡ 0 → Passes v w → out_of (seen_board w).out w.number ≡ 0
home-passes v w home i = ap (out_of (seen_board w).out) i.stays.number ∙ i.units ∙ home

pub idle-passes : (v w : Knows) → IsIdle v → Passes v w → IsFree w → IsIdle w
idle-passes v w idle i free = record { settled = settled-passes v w idle.settled i; free = free; home = home-passes v w idle.home i }

-- a new search goes with the board
pub begins : (p : Program) (m : Mode) (v : Knows) (s : Searching) (u : Units) → IsRunOf p m v → out_of (seen_board v).out v.number ≡ 0 →
    s ≡ new_search p m s.slots → u ≡ record { program = p; left = 0; burnt = 0; reasoned = false; known = 0; least = None } → GoesOn m v s u
begins p m v s u run home e f =
    let goal : (seen_board v).task.goal ≡ goal_of m run.goal.0 = ap (λ (t : Task). t.goal) (board-task v) ∙ run.goal.1 in
    let owes : Owes v u = owes-none p m v u run home f in
    subst (λ (x : Searching). GoesOn m v x u) (sym e) (record {
      program = sym run.program;
      mode_is = refl;
      work = work-begins (seen_board v) v.number m run.goal.0 u goal owes.back;
      few = owes.few;
    })

-- ---- the units are given back
none-out : (s : ℕ) (out : List (ℕ × ℕ)) → out_of (returned s out) s ≡ 0
none-out s [] = refl
none-out s (x ∷ out) = here (eqb x.0 s) refl (none-out s out)
  where
    here : (z : Bool) → z ≡ eqb x.0 s → out_of (returned s out) s ≡ 0 → out_of (cond z ((x.0, 0) ∷ out) (x ∷ returned s out)) s ≡ 0
    here true q rest = ap (λ y. let k : ℕ = cond y 0 (out_of out s) in k) (sym q)
    here false q rest = ap (λ y. let k : ℕ = cond y x.1 (out_of (returned s out) s) in k) (sym q) ∙ rest

module _ (v w : Knows) (before : List Event) (stays : Stays v w) (u : Units) (set : IsSettled v) (free : IsFree v) (owes : Owes v u) where
  by-sum : (z : Bool) → z ≡ eqb (u.left + u.burnt) 0 → IsCall v w before (cond z [] (event.Back v.number u.left u.burnt ∷ [])) → IsIdle w
  by-sum true q call =
      let i : Idles v w = idles-call v w before stays call in
      record {
        settled = settled-idles v w set i;
        free = free-idles v w free i;
        home = ap (out_of (seen_board w).out) stays.number ∙ i.spares.units ∙ sym owes.back.1 ∙ eqb-true (u.left + u.burnt) 0 (sym q);
      }
  by-sum false q call =
      let e : Event = event.Back v.number u.left u.burnt in
      let now : seen_board w ≡ happens (replay (task_of v) before) e = board-now v w before stays e call in
      record {
        settled = settled-on v w set stays (lawful-now v w before stays e call);
        free = ap (λ n. held_by n (seen_board w).nodes) stays.number ∙ ap (λ (b : Board). held_by v.number b.nodes) now ∙ call.spared.count ∙ free;
        home = ap (out_of (seen_board w).out) stays.number ∙ ap (λ (b : Board). out_of b.out v.number) now ∙ none-out v.number (replay (task_of v) before).out;
      }

  pub given-idle : IsCall v w before (given_back v.number u) → IsIdle w
  given-idle call = by-sum (eqb (u.left + u.burnt) 0) refl call

-- ---- what the number did, and why it ended
pub begins-ready : (p : Program) (c : Shared) (h : Worker) → MayWork p c h → IsReady c h
begins-ready p c h may = placed-ready c h may.ready (others-own IsTidy (view h.seat).number (view h.seat).seen may.new)

pub tidy-small : (v : Knows) → OwnAre IsTidy v → OwnAre IsSmall v
tidy-small v h = own-weaker IsTidy IsSmall v.number v.seen (λ e t. t.0) h

pub stopped-on : (stopped : Type 0) (v w : Knows) → Stays v w → WasStopped stopped v → WasStopped stopped w
stopped-on stopped v w stays (inl e) = inl (was-on (λ b. b.pool ≡ 0) v w stays e)
stopped-on stopped v w stays (inr (inl e)) = inr (inl (was-on (λ b. is_enough b ≡ true) v w stays e))
stopped-on stopped v w stays (inr (inr s)) = inr (inr s)

-- it gave its units back, if it had any
back-are : (P : Event → Type 0) (n : ℕ) (u : Units) → P (event.Back n u.left u.burnt) → By P n (given_back n u)
back-are P n u p = here (eqb (u.left + u.burnt) 0)
  where
    here : (z : Bool) → By P n (cond z [] (event.Back n u.left u.burnt ∷ []))
    here true = tt
    here false = (λ _. p, tt)

module _ (v w : Knows) (before : List Event) (stays : Stays v w) (u : Units) (owes : Owes v u) (call : IsCall v w before (given_back v.number u)) where
  pub given-small : OwnAre IsSmall v → OwnAre IsSmall w
  given-small = own-call v w before (given_back v.number u) stays call IsSmall (back-are IsSmall v.number u owes.few)

  pub given-cause : (stopped : Type 0) (short : Bool) (begun : List Event) → HasCause stopped short begun v → HasCause stopped short begun w
  given-cause stopped short begun (inl t) = inl (record {
    quiet = quiet-call v w before (given_back v.number u) stays call begun (back-are IsBack v.number u tt) t.quiet;
    tidy = own-call v w before (given_back v.number u) stays call IsTidy (back-are IsTidy v.number u (owes.few, λ r. r)) t.tidy;
  })
  given-cause stopped short begun (inr (inl e)) = inr (inl e)
  given-cause stopped short begun (inr (inr s)) = inr (inr (stopped-on stopped v w stays s))

pub cause-later : (stopped : Type 0) (short : Bool) (begun since : List Event) (v : Knows) → IsPrefix begun since → HasCause stopped short since v → HasCause stopped short begun v
cause-later stopped short begun since v p (inl t) = inl (record { quiet = quiet-later begun since v p t.quiet; tidy = t.tidy })
cause-later stopped short begun since v p (inr s) = inr s

-- ---- a leaf is given back
module _ (v w : Knows) (before : List Event) (stays : Stays v w) (leaf : ℕ) (call : IsCall v w before (event.Release v.number leaf ∷ [])) where
  pub owes-released : (u : Units) → Owes v u → Owes w u
  owes-released u owes =
      let e : Event = event.Release v.number leaf in
      owes-by v w u owes stays (grows-now v w before stays e call) (ap (λ (b : Board). out_of b.out v.number) (board-now v w before stays e call) ∙ call.spared.units)

  -- without units out it has nothing then
  pub idle-released : IsSettled v → out_of (seen_board v).out v.number ≡ 0 → IsIdle w
  idle-released set home =
      let e : Event = event.Release v.number leaf in
      record {
        settled = settled-on v w set stays (lawful-now v w before stays e call);
        free = free-released v w before stays leaf set.run call;
        home = ap (out_of (seen_board w).out) stays.number ∙ ap (λ (b : Board). out_of b.out v.number) (board-now v w before stays e call) ∙ call.spared.units ∙ home;
      }

  pub small-released : OwnAre IsTidy v → OwnAre IsSmall w
  small-released tidy = own-call v w before (event.Release v.number leaf ∷ []) stays call IsSmall (λ _. tt, tt) (tidy-small v tidy)
