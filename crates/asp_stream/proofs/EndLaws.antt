-- What is said at the end is a report.
use Rattle.std.proofs.Common.{◌≡◌, ℕ, ◌+◌, ◌-◌, ◌^◌, ◌<◌, ◌≤◌, min, Bool, true, false, cond, ◌||◌, eqb, List, [], ◌∷◌, ◌++◌, fold, length, Option, Some, None, refl, sym, ap, ◌∙◌, subst, inl, inr, arith, append_assoc, length-append}
use Rattle.std.specs.Prelude.{IsTrue, option_map, ℤ}
use Rattle.std.specs.Option.{IfSome}
use Rattle.std.specs.Ordering.{match_ordering}
use Rattle.std.specs.declared.cmp.Ordering.{Ordering}
use Rattle.std.specs.declared.cmp.Ordering.TheVariants.{Less, Equal, Greater}
use Rattle.std.proofs.lemmas.Bool.{false≢true, eqb-true}
use Rattle.std.proofs.lemmas.List.{append-nil}
use Rattle.asp_model.specs.declared.program.Program.{Program}
use Rattle.asp_model.specs.declared.results.Mode.TheVariants.{Enum}
use Rattle.asp_model.specs.Models.{atoms_of}
use Rattle.asp_model.specs.Sets.{Atoms, set_cmp}
use Rattle.asp_vars.specs.Paid.{Clash, Units}
use Rattle.asp_path.specs.Trees.{all_closed, leaf_count}
use Rattle.asp_core.specs.declared.event.Event.{Event}
use Rattle.asp_core.specs.declared.event.Event.TheVariants as event
use Rattle.asp_core.specs.declared.goal.Goal.{Goal}
use Rattle.asp_core.specs.declared.goal.Goal.TheVariants as goal
use Rattle.asp_core.specs.declared.task.Task.{Task}
use Rattle.asp_core.specs.Boards.{Board, start, common_by, is_answer, is_enough, listed_by, optimises, showing_of, sought}
use Rattle.asp_core.specs.Events.{happens, replay, run}
use Rattle.asp_core.specs.Invariant.{IsBoard}
use Rattle.asp_core.specs.Sorting.{sorted_once, with_set}
use Rattle.asp_core.specs.Units.{out_of}
use Rattle.asp_core.proofs.GrowthLaws.{Grows-happens}
use Rattle.asp_core.proofs.UnitLaws.{out_of-le-total}
use Rattle.asp_book.specs.Books.{Booked, board, with_events, IsJournalOf}
use Rattle.asp_book.specs.Fuels.{Fits, IsOwnFuel}
use Rattle.asp_book.specs.Replies.{given_back, leased_out}
use Rattle.asp_book.proofs.BookLaws.{Fits-grows}
use Rattle.asp_book.proofs.CallLaws.{run-append}
use Rattle.asp_search_laws.specs.Searching.{Searching}
use Rattle.asp_crew_laws.specs.Reports.{IsIdle, IsToldBy, IsWorkedOff, end_by, end_of}
use Rattle.asp_crew_laws.specs.Runs.{with_cost}
use Rattle.asp_crew_laws.specs.Working.{MayBegin}
use Rattle.asp_crew_laws.proofs.PlayedLaws.{open-left, told-reports}
use Rattle.asp_crew.specs.Running.{Adds, IsReady, IsThrough, LeavesAll, QueryStands}
use Rattle.asp_crew.proofs.BookLaws.{board-task, board-with}
use Rattle.asp_crew.proofs.FinishLaws.{IsLeased, all_of, finished, idle-after, leased-is, leased-works, ready-begins}
use Rattle.asp_crew.specs.Twice.{IsSearched}
use Rattle.asp_crew.proofs.TieLaws.{searched-is}
use Rattle.asp_backlog.specs.Backlogs.{Pending}
use Rattle.asp_stream.specs.Endings.{HasReport, HasSome, IsBegun, IsOver, IsTelling, IsTellingOf, Tells, all_units, end_of as told_end, report_of, unpaid_of}
use Rattle.asp_stream.specs.Leaves.{LeavesPart}
use Rattle.asp_ledger.specs.Ledgers.{IsListing, enumeration}
use Rattle.asp_backlog.specs.Telling.{IsTold}
use Rattle.asp_stream.specs.declared.told.End.{End}
use Rattle.asp_stream.specs.declared.told.End.TheVariants as end
use Rattle.asp_stream.specs.declared.told.Told.{Told}
use Rattle.asp_ledger.proofs.LedgerLaws.{board-is, listing-same, no-limit, no-optimum, no-query, nothing-sought}
use Rattle.asp_backlog.proofs.ToldLaws.{told-all}

-- ---- the units at the start
all-are : (v : Booked) → v.task.budget < 2 ^ 64 → IsBegun v → all_units v.task.program v.task.budget ≡ all_of (board v)
all-are v small is =
    ap (λ n. let u : Units = record { program = v.task.program; left = n; burnt = 0; reasoned = false; known = 0; least = None } in u)
    (let same : v.task.budget ≡ min (2 ^ 64 - 1) (board v).pool = omega (arith, small, is.pool) in same)
    ∙ ap (λ (t : Task). let u : Units = record { program = t.program; left = min (2 ^ 64 - 1) (board v).pool; burnt = 0; reasoned = false; known = 0; least = None } in u) (sym (board-task v))

pub leased : (v w : Booked) (f : Units) → v.task.budget < 2 ^ 64 → IsBegun v → f ≡ all_units v.task.program v.task.budget → w ≡ with_events v (leased_out 0 f) → IsLeased v w
leased v w f small is units now =
    leased-is v w is.idle (omega (arith, small, is.pool)) (now ∙ ap (λ (u : Units). with_events v (leased_out 0 u)) (units ∙ all-are v small is))

pub begins-ready : (v w : Booked) (bound : Option (List ℤ)) (s : Searching) (f : Units) → v.task.budget < 2 ^ 64 → IsBegun v → IsListing v.task → MayBegin Enum bound v.task.goal →
    IsLeased v w → f ≡ all_units v.task.program v.task.budget → s.program ≡ v.task.program → s.mode ≡ Enum → s.known ≡ [] → s.bound ≡ bound → IsReady Enum w s f
begins-ready v w bound s f small begun task may is units program mode known under =
    ready-begins Enum bound w s f (subst QueryStands (sym is.task) (no-query v task)) (leased-works Enum bound v w f may is (units ∙ all-are v small begun))
    (program ∙ sym (ap (λ (t : Task). t.program) is.task)) mode known under

pub may-enumerate : (g : Goal) → g ≡ goal.Enum → MayBegin Enum None g
may-enumerate g same = inl ((false, same), refl)

pub may-tie : (g : Goal) (bound : Option (List ℤ)) → g ≡ goal.Ties bound → MayBegin Enum bound g
may-tie g bound same = inr (refl, same)

-- ---- the end
no-best : (b : Board) → IsBoard b → optimises b.task.goal ≡ false → b.best ≡ None
no-best b is none = here b.best refl is.best
  where
    here : (o : Option Atoms) → o ≡ b.best → IfSome o (λ S. IsTrue (optimises b.task.goal) × IsTrue (is_answer b.task S)) → b.best ≡ None
    here None e h = sym e
    here (Some S) e h = absurd (false≢true (sym none ∙ h.0))

-- u: it may begin; v: the units are out; w: all was worked off; y: the units are back
module _ (u v w y : Booked) (t : Searching) (g : Units) (small : u.task.budget < 2 ^ 64) (begun : IsBegun u) (task : IsListing u.task) (is : IsLeased u v)
    (lawful_w : IsJournalOf w.task w.journal) (lawful_y : IsJournalOf y.task y.journal) (now : y ≡ with_events w (given_back 0 g)) where
  module _ (how : End) (left : LeavesPart v w t g (Some how)) where
    task-w : IsListing w.task
    task-w = listing-same u.task w.task (left.task ∙ is.task) task

    budget-w : (board w).task.budget ≡ u.task.budget
    budget-w = ap (λ (x : Task). x.budget) (board-task w ∙ left.task ∙ is.task)

    -- no unit was burnt before
    nothing-burnt : (board w).burnt ≡ 0
    nothing-burnt =
        let units : out_of (board w).out 0 ≡ u.task.budget =
        ap (λ (o : List (ℕ × ℕ)). out_of o 0) left.out ∙ is.units ∙ (let z : min (2 ^ 64 - 1) (board u).pool ≡ u.task.budget = omega (arith, small, begun.pool) in z) in
        omega (arith, (board-is w task-w lawful_w).units, out_of-le-total 0 (board w).out, units, budget-w)

    pool-w : (board w).pool ≡ 0
    pool-w = left.pool ∙ is.pool

    abbrev back : Event
    back = event.Back 0 g.left g.burnt

    -- either no unit comes back, or all do
    by-units : (P : Board → Type 0) → (g.left + g.burnt ≡ 0 → P (board w)) → P (happens (board w) back) → P (board y)
    by-units P none some = here (eqb (g.left + g.burnt) 0) refl now
      where
        here : (x : Bool) → x ≡ eqb (g.left + g.burnt) 0 → y ≡ with_events w (cond x [] (back ∷ [])) → P (board y)
        here true e same = subst (λ (z : Booked). P (board z)) (sym same) (none (eqb-true (g.left + g.burnt) 0 (sym e)))
        here false e same = subst P (sym (ap board same ∙ board-with w back)) some

    fits-y : Fits (board y) g
    fits-y = by-units (λ (b : Board). Fits b g) (λ none. left.ready.work.units.0)
        (Fits-grows (board w) (happens (board w) back) g (Grows-happens (board w) back left.ready.work.units.1) left.ready.work.units.0)

    own-y : IsOwnFuel (board y) g
    own-y = record {
      fits = fits-y;
      left = by-units (λ (b : Board). g.left ≡ b.pool) (λ none. omega (arith, pool-w, none)) (omega (arith, pool-w));
      burnt = by-units (λ (b : Board). g.burnt ≡ b.burnt) (λ none. omega (arith, nothing-burnt, none)) (omega (arith, nothing-burnt));
    }

    same-answers : (board y).answers ≡ (board w).answers
    same-answers = by-units (λ (b : Board). b.answers ≡ (board w).answers) (λ none. refl) refl

    task-y : y.task ≡ w.task
    task-y = here (eqb (g.left + g.burnt) 0) now
      where
        here : (x : Bool) → y ≡ with_events w (cond x [] (back ∷ [])) → y.task ≡ w.task
        here true same = ap (λ (z : Booked). z.task) same
        here false same = ap (λ (z : Booked). z.task) same

    listing-y : IsListing y.task
    listing-y = listing-same w.task y.task task-y task-w

    -- the report's parts, where it is known how it ended
    told-report : (r : Told) (heard : List Atoms) (q : Pending) → r.end ≡ how → r.paid ≡ g → r.journal ≡ y.journal → r.leaves ≡ leaf_count (board y).nodes →
        r.rest.sets ≡ q.sets → IsTold (board w) heard q →
        IsWorkedOff (board y) (unpaid_of how) → IsIdle (board y) → told_end how ≡ end_of (board y) → IsSearched u.task (report_of heard r)
    told-report r heard q ended paid journal leaves rest told over idle ends =
        let is_board : IsBoard (board y) = board-is y listing-y lawful_y in
        let none : sought (board y).task.goal ≡ None = nothing-sought y listing-y in
        let is_told : IsToldBy (board y) (report_of heard r) = record {
          answers = ap (λ (X : List Atoms). heard ++ X) rest ∙ told-all (board w) heard q (board-is w task-w lawful_w) (nothing-sought w task-w) told
              ∙ ap sorted_once (sym same-answers) ∙ sym (ap (λ k. sorted_once (listed_by k (board y).answers)) none);
          best = sym (ap (λ (o : Option Atoms). option_map (with_cost (board y).task.program) o) (no-best (board y) is_board (no-optimum y listing-y)));
          common = sym (ap (λ k. common_by k (board y).task.program (showing_of (board y))) none);
          end = ap told_end ended ∙ ends;
          leaves = leaves;
          spent = ap (λ (f : Units). f.burnt) paid ∙ own-y.burnt;
          paid = subst (IsOwnFuel (board y)) (sym paid) own-y;
          idle = idle;
          over = subst (λ (e : End). IsWorkedOff (board y) (unpaid_of e)) (sym ended) over;
        } in
        searched-is u.task y (report_of heard r) (task-y ∙ left.task ∙ is.task) lawful_y journal is_told

  -- ---- by the end
  all-left : (o : Option Clash) (how : End) → LeavesPart v w t g (Some how) → IsThrough (board w) g o → LeavesAll Enum v w t g o
  all-left o how left through = record { ready = left.ready; alone = left.alone; task = left.task; adds = left.adds; pool = left.pool; through = through }

  finished-all : LeavesPart v w t g (Some end.Finished) → LeavesAll Enum v w t g None
  finished-all left = all-left None end.Finished left (λ more. left.over)

  unpaid-all : (x : Clash) → LeavesPart v w t g (Some (end.Unpaid x)) → LeavesAll Enum v w t g (Some x)
  unpaid-all x left = all-left (Some x) (end.Unpaid x) left (no-limit w (task-w (end.Unpaid x) left), left.over.0, left.over.1)

  closed-at-end : (b : Board) → is_enough b ≡ false → IsWorkedOff b None → all_closed b.nodes ≡ true
  closed-at-end b more over = sym (ap (λ x. x || all_closed b.nodes) more) ∙ over

  finished-report : (left : LeavesPart v w t g (Some end.Finished)) (r : Told) (heard : List Atoms) (q : Pending) → r.end ≡ end.Finished → r.paid ≡ g →
      r.journal ≡ y.journal → r.leaves ≡ leaf_count (board y).nodes → r.rest.sets ≡ q.sets → IsTold (board w) heard q → IsSearched u.task (report_of heard r)
  finished-report left r heard q ended paid journal leaves rest told =
      let all = finished-all left in
      let over : IsWorkedOff (board y) None = finished Enum v w y t g None all is.pool now in
      let more : is_enough (board y) ≡ false = no-limit y (listing-y end.Finished left) in
      told-report end.Finished left r heard q ended paid journal leaves rest told over (idle-after Enum v w y t g None all is.pool now)
      (sym (ap (λ x. end_by x (all_closed (board y).nodes)) more ∙ ap (end_by false) (closed-at-end (board y) more over)))

  unpaid-report : (x : Clash) (left : LeavesPart v w t g (Some (end.Unpaid x))) (r : Told) (heard : List Atoms) (q : Pending) → r.end ≡ end.Unpaid x → r.paid ≡ g →
      r.journal ≡ y.journal → r.leaves ≡ leaf_count (board y).nodes → r.rest.sets ≡ q.sets → IsTold (board w) heard q → IsSearched u.task (report_of heard r)
  unpaid-report x left r heard q ended paid journal leaves rest told =
      let all = unpaid-all x left in
      let over : IsWorkedOff (board y) (Some x) = finished Enum v w y t g (Some x) all is.pool now in
      let more : is_enough (board y) ≡ false = no-limit y (listing-y (end.Unpaid x) left) in
      told-report (end.Unpaid x) left r heard q ended paid journal leaves rest told over (idle-after Enum v w y t g (Some x) all is.pool now)
      (sym (ap (λ b. end_by b (all_closed (board y).nodes)) more ∙ ap (end_by false) (open-left (board y).nodes over.2.0 over.2.1.unclosed)))

  -- what is told at the end
  tells : (how : End) → LeavesPart v w t g (Some how) → (r : Told) (heard : List Atoms) (q : Pending) (wants : Bool) → r.end ≡ how → r.paid ≡ g → r.journal ≡ y.journal →
      r.leaves ≡ leaf_count (board y).nodes → r.rest.sets ≡ q.sets → IsTold (board w) heard q → (how ≡ end.Unwanted → wants ≡ false) → Tells (IsSearched u.task (report_of heard r)) wants how
  tells end.Finished left r heard q wants ended paid journal leaves rest told refused = finished-report left r heard q ended paid journal leaves rest told
  tells (end.Unpaid x) left r heard q wants ended paid journal leaves rest told refused = unpaid-report x left r heard q ended paid journal leaves rest told
  tells end.Unwanted left r heard q wants ended paid journal leaves rest told refused = refused refl

-- ---- answers that were delivered stay
answers-run : (b : Board) (journal : List Event) → length b.answers ≤ length (run b journal).answers
answers-run b [] = omega arith
answers-run b (event.Take s leaf ∷ journal) = answers-run (happens b (event.Take s leaf)) journal
answers-run b (event.Split s leaf l ∷ journal) = answers-run (happens b (event.Split s leaf l)) journal
answers-run b (event.Deliver s S ∷ journal) =
    let later : length (b.answers ++ S ∷ []) ≤ length (run (happens b (event.Deliver s S)) journal).answers = answers-run (happens b (event.Deliver s S)) journal in
    omega (arith, later, length-append b.answers (S ∷ []))
answers-run b (event.Improve s S ∷ journal) = answers-run (happens b (event.Improve s S)) journal
answers-run b (event.Close s leaf n ∷ journal) = answers-run (happens b (event.Close s leaf n)) journal
answers-run b (event.Release s leaf ∷ journal) = answers-run (happens b (event.Release s leaf)) journal
answers-run b (event.Lease s n ∷ journal) = answers-run (happens b (event.Lease s n)) journal
answers-run b (event.Back s left burnt ∷ journal) = answers-run (happens b (event.Back s left burnt)) journal

-- what happens leaves the task as it is and is written behind the journal
with-task : (v : Booked) (es : List Event) → (with_events v es).task ≡ v.task
with-task v [] = refl
with-task v (e ∷ es) = refl

with-journal : (v : Booked) (es : List Event) → (with_events v es).journal ≡ v.journal ++ es
with-journal v [] = sym (append-nil v.journal)
with-journal v (e ∷ es) = refl

-- from u to v the units went out; then more happened
answers-stay : (u v w : Booked) (f : Units) → v ≡ with_events u (leased_out 0 f) → w.task ≡ v.task → Adds v w → length (board u).answers ≤ length (board w).answers
answers-stay u v w f out task adds =
    let more : List Event = leased_out 0 f ++ adds.more in
    let journal : w.journal ≡ u.journal ++ more =
    adds.journal ∙ ap (λ (z : Booked). z.journal ++ adds.more) out ∙ ap (λ (j : List Event). j ++ adds.more) (with-journal u (leased_out 0 f)) ∙
    append_assoc u.journal (leased_out 0 f) adds.more in
    let same : board w ≡ run (board u) more =
    ap (λ (t : Task). replay t w.journal) (task ∙ ap (λ (z : Booked). z.task) out ∙ with-task u (leased_out 0 f)) ∙ ap (replay u.task) journal ∙
    run-append (start u.task) u.journal more in
    subst (λ (b : Board). length (board u).answers ≤ length b.answers) (sym same) (answers-run (board u) more)

with_set-some : (S : Atoms) (Ts : List Atoms) → 0 < length (with_set S Ts)
with_set-some S [] = omega arith
with_set-some S (T ∷ Ts) = here (set_cmp S T)
  where
    here : (o : Ordering) → 0 < length (match_ordering o (S ∷ T ∷ Ts) (T ∷ Ts) (T ∷ with_set S Ts))
    here Less = omega arith
    here Equal = omega arith
    here Greater = omega arith

folded-some : (Ts A : List Atoms) → 0 < length Ts → 0 < length (fold (λ Ts S. with_set S Ts) Ts A)
folded-some Ts [] some = some
folded-some Ts (S ∷ A) some = folded-some (with_set S Ts) A (with_set-some S Ts)

sorted-some : (A : List Atoms) → 0 < length A → 0 < length (sorted_once A)
sorted-some [] some = some
sorted-some (S ∷ A) some = folded-some (with_set S []) A (with_set-some S [])

-- u: it may begin; w: all was worked off; y: the units are back
pub telling : (u w y : Booked) (g : Units) (how : End) (over : IsOver u w g how) (r : Told) (heard : List Atoms) (q : Pending) (wants : Bool) →
    IsListing w.task → IsJournalOf w.task w.journal → IsJournalOf y.task y.journal → y ≡ with_events w (given_back 0 g) → IsTold (board w) heard q →
    (how ≡ end.Unwanted → wants ≡ false) → r.end ≡ how → r.paid ≡ g → r.journal ≡ y.journal → r.leaves ≡ leaf_count (board y).nodes → r.rest.sets ≡ q.sets → r.rest.atoms ≡ q.atoms →
    length heard + length r.rest.sets + 1 < 2 ^ 64 → IsTelling u.task heard wants r × HasSome (board u).answers heard r
telling u w y g how over r heard q wants task lawful_w lawful_y now told refused ended paid journal leaves rest atoms few =
    let f : Units = all_units u.task.program u.task.budget in
    let v : Booked = with_events u (leased_out 0 f) in
    let is : IsLeased u v = leased u v f over.small over.begun refl refl in
    let task-is : w.task ≡ u.task = over.left.task ∙ with-task u (leased_out 0 f) in (
      record {
        atoms = atoms ∙ told.atoms ∙ ap (λ (x : Task). atoms_of x.program) (board-task w ∙ task-is);
        tells = subst (Tells (IsSearched u.task (report_of heard r)) wants) (sym ended)
            (tells u v w y over.search g over.small over.begun (listing-same w.task u.task (sym task-is) task) is lawful_w lawful_y now how over.left
            r heard q wants ended paid journal leaves rest told refused);
        few = few;
        program = ap (λ (k : Units). k.program) paid ∙ over.left.ready.work.units.0.program ∙ ap (λ (x : Task). x.program) (board-task w ∙ task-is);
        units = ap (λ (k : Units). k.left + k.burnt) paid ∙ over.left.ready.work.units.1 ∙ ap (λ (o : List (ℕ × ℕ)). out_of o 0) over.left.out ∙ is.units
            ∙ (let z : min (2 ^ 64 - 1) (board u).pool ≡ u.task.budget = omega (arith, over.small, over.begun.pool) in z);
      },
      λ some.
          let all : heard ++ q.sets ≡ sorted_once (board w).answers = told-all (board w) heard q (board-is w task lawful_w) (nothing-sought w task) told in
          let more : length (board u).answers ≤ length (board w).answers = answers-stay u v w f refl over.left.task over.left.adds in
          let there : 0 < length (sorted_once (board w).answers) = sorted-some (board w).answers (omega (arith, some, more)) in
          omega (arith, there, ap length all, length-append heard q.sets, ap length rest),
    )

-- ---- from the beginning on
pub units-are : (u : Booked) (budget : ℕ) (p : Program) (f : Units) → u.task.budget ≡ budget → u.task.program ≡ p → f ≡ all_units p budget → f ≡ all_units u.task.program u.task.budget
units-are u budget p f same program units = units ∙ ap (λ (q : Program). all_units q budget) (sym program) ∙ ap (all_units u.task.program) (sym same)

pub run-over : (u w x : Booked) (budget : ℕ) (p : Program) (f g : Units) (t : Searching) (how : End) → budget < 2 ^ 64 → u.task.budget ≡ budget → u.task.program ≡ p → IsBegun u →
    f ≡ all_units p budget → w ≡ with_events u (leased_out 0 f) → LeavesPart w x t g (Some how) → IsOver u x g how
run-over u w x budget p f g t how small same program begun units now left = record {
  small = omega (arith, small, same);
  begun = begun;
  search = t;
  left = subst (λ (z : Booked). LeavesPart z x t g (Some how))
      (now ∙ ap (λ (k : Units). with_events u (leased_out 0 k)) (units-are u budget p f same program units)) left;
}

-- ---- all answers
pub tells-weaker : (A B : Type 0) (wants : Bool) (e : End) → (A → B) → Tells A wants e → Tells B wants e
tells-weaker A B wants end.Finished f h = f h
tells-weaker A B wants (end.Unpaid x) f h = f h
tells-weaker A B wants end.Unwanted f h = h

-- the report of a search for all answers says so
pub telling-all : (p : Program) (budget : ℕ) (heard : List Atoms) (wants : Bool) (r : Told) → IsTelling (enumeration p budget) heard wants r → IsTellingOf p budget heard wants r
telling-all p budget heard wants r is = record {
  atoms = is.atoms;
  tells = tells-weaker (IsSearched (enumeration p budget) (report_of heard r)) (HasReport p budget heard r) wants r.end
      (λ h. told-reports p Enum 0 budget false (report_of heard r) h.lawful h.told refl refl) is.tells;
  few = is.few;
  program = is.program;
  units = is.units;
}

-- ---- by other words for the task
pub telling-by : (t u : Task) (heard : List Atoms) (wants : Bool) (r : Told) → u ≡ t → IsTelling u heard wants r → IsTelling t heard wants r
telling-by t u heard wants r same is = subst (λ (x : Task). IsTelling x heard wants r) same is
