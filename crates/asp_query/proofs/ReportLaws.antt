-- What is told of a query's book is its report.
use Rattle.std.proofs.Common.{◌≡◌, ℕ, ◌+◌, ◌≤◌, Bool, true, false, cond, not, ◌&&◌, ◌||◌, eqb, leb, List, [], ◌∷◌, length, Option, Some, None, refl, sym, ap, ◌∙◌, subst, inl, arith}
use Rattle.std.specs.Prelude.{if◌then◌else◌, ℤ, IfSome, IsTrue, filter, option_map}
use Rattle.std.specs.Option.{is_some}
use Rattle.std.specs.List.{list_any, AllByRecursion}
use Rattle.std.proofs.lemmas.Bool.{false≢true}
use Rattle.std.proofs.lemmas.List.Filters.{length-filter_both}
use Rattle.asp_model.specs.declared.program.Program.{Program}
use Rattle.asp_model.specs.declared.results.Mode.TheVariants.{Enum}
use Rattle.asp_model.specs.Holding.{atom_of}
use Rattle.asp_model.specs.Models.{atoms_of}
use Rattle.asp_model.specs.Sets.{Atoms, has, same_set}
use Rattle.asp_vars.specs.Numbering.{literal_of}
use Rattle.asp_vars.specs.Paid.{Units}
use Rattle.asp_path.specs.Trees.{all_closed}
use Rattle.asp_core.specs.declared.event.Event.TheVariants as event
use Rattle.asp_core.specs.declared.goal.Goal.{Goal}
use Rattle.asp_core.specs.declared.goal.Goal.TheVariants as goal
use Rattle.asp_core.specs.declared.task.Task.{Task}
use Rattle.asp_core.specs.Boards.{Board, IsQuery, distinct, is_enough, listed_by, showing, sought, wanted}
use Rattle.asp_core.specs.Events.{replay}
use Rattle.asp_core.specs.Sorting.{answers_of, sorted_once}
use Rattle.asp_core.proofs.BoardLaws.{wanted-stand}
use Rattle.asp_core.proofs.ResultLaws.{HasResult-finished}
use Rattle.asp_core.proofs.SortingLaws.{sorted-has}
use Rattle.asp_book.specs.Books.{Booked, board, with_events, IsJournalOf}
use Rattle.asp_book.specs.Replies.{given_back}
use Rattle.asp_search_laws.specs.Searching.{Searching}
use Rattle.asp_crew_laws.specs.declared.report.Report.{Report}
use Rattle.asp_crew_laws.specs.Agrees.{Agrees, AreRecorded}
use Rattle.asp_crew_laws.specs.Reports.{board_by, end_by, IsPlayed, IsToldBy}
use Rattle.asp_crew_laws.specs.Runs.{with_cost}
use Rattle.asp_crew_laws.proofs.FoundLaws.{none-kept}
use Rattle.asp_crew_laws.proofs.PlayedLaws.{is-board, paid-known, task-is, told-bounds, told-budget, told-played}
use Rattle.asp_unsat.specs.Cores.{HasNothing, IsCore, IsPlain, blamed_by, is_blamed}
use Rattle.asp_unsat.proofs.CoreLaws.{blamed-core}
use Rattle.asp_crew.specs.Refuting.{is_nothing}
use Rattle.asp_crew.specs.Running.{QueryStands}
use Rattle.asp_crew.proofs.BookLaws.{board-task, board-with}
use Rattle.asp_crew.proofs.CoreLaws.{once-nothing}
use Rattle.asp_crew.proofs.FinishLaws.{IsLeased, all_of, finished, idle-after, leased-works, ready-begins, task-after}
use Rattle.asp_query.specs.Kept.{HasCore, IsBegun, IsCoreOf, IsFresh, IsOver, IsQueryReport, IsWorkedThrough, query_of}
use Rattle.asp_query.specs.Turns.{ClosesAll, IsAsking}
use Rattle.asp_query.proofs.TurnLaws.{not-enough}

-- it isn't enough, and so all is closed
closed-by : (enough closed : Bool) → enough ≡ false → (enough || closed) ≡ true → closed ≡ true
closed-by true shut less h = absurd (false≢true (sym less ∙ refl))
closed-by false shut less h = h

no-less : (o : Option (List ℤ)) → IfSome o (λ c. ⊥) → o ≡ None
no-less None h = refl
no-less (Some c) h = absurd h

not-true : (b : Bool) → (b ≡ true → ⊥) → b ≡ false
not-true true h = absurd (h refl)
not-true false h = refl

-- nothing is kept as the best of all answers
none-best : (p : Program) (q : List ℤ) (n : ℕ) (r : Report) → IsQuery p q → IsJournalOf (query_of p q n) r.journal → IsToldBy (board_by (query_of p q n) r) r →
    (board_by (query_of p q n) r).best ≡ None
none-best p q n r stands lawful told =
    let t : Task = query_of p q n in
    let b : Board = board_by t r in
    none-kept b.task b.best (ap (λ (x : Task). x.goal) (task-is t r stands lawful told)) (is-board t r stands lawful told).best

-- ---- the core
-- what it is made of
pub nothing-sought : (v : Booked) → IsWorkedThrough v → sought (board v).task.goal ≡ None
nothing-sought v is = ap (λ (x : Task). sought x.goal) (board-task v ∙ is.asks)

pub wanted-are : (v : Booked) (p : Program) (literals : List ℤ) → IsWorkedThrough v → p ≡ v.task.program → literals ≡ wanted v.task →
    AllByRecursion (λ l. has (atoms_of p) (atom_of l) ≡ true) literals
wanted-are v p literals is same all =
    subst (λ (q : Program). AllByRecursion (λ l. has (atoms_of q) (atom_of l) ≡ true) literals) (sym same)
    (subst (AllByRecursion (λ l. has (atoms_of v.task.program) (atom_of l) ≡ true)) (sym all) (wanted-stand v.task is.query))

few-filtered : (f : ℤ → Bool) (xs : List ℤ) → length (filter f xs) ≤ length xs
few-filtered f xs = let both = length-filter_both f (λ x. not (f x)) (λ x. refl) xs in omega (arith, both)

-- where all is closed and nothing was recorded
is-core : (v : Booked) → IsWorkedThrough v → IsJournalOf v.task v.journal → all_closed (board v).nodes ≡ true → (board v).best ≡ None → (board v).answers ≡ [] →
    IsCoreOf v.task (blamed_by v.task.program (board v).reasons (wanted v.task))
is-core v is lawful closed best none =
    let enum : (board v).task.goal ≡ goal.Enum = ap (λ (x : Task). x.goal) (board-task v ∙ is.asks) in
    let nothing : HasNothing (board v) = record { plain = subst IsPlain (sym enum) tt; answers = none; best = best } in
    let core : IsCore v.task.program (wanted v.task) (blamed_by (board v).task.program (board v).reasons (wanted (board v).task)) =
    blamed-core v.task v.journal is.query lawful closed nothing in
    record {
      is = subst (λ (x : Task). IsCore v.task.program (wanted v.task) (blamed_by x.program (board v).reasons (wanted x))) (board-task v) core;
      few = few-filtered (λ l. is_blamed (board v).reasons (literal_of v.task.program l)) (wanted v.task);
    }

-- exactly where nothing is listed
core-by : (t : Task) (L A : List Atoms) (core : List ℤ) → is_nothing L ≡ is_nothing A → (A ≡ [] → IsCoreOf t core) → HasCore t L (if is_nothing A then Some core else None)
core-by t [] [] core e h = h refl
core-by t [] (S ∷ A) core e h = absurd (false≢true (sym e))
core-by t (T ∷ L) [] core e h = absurd (false≢true e)
core-by t (T ∷ L) (S ∷ A) core e h = tt

-- what is told doesn't rest on the core
told-beside : (b : Board) (r : Report) (o : Option (List ℤ)) → IsToldBy b r → IsToldBy b (record r { core = o })
told-beside b r o is = record {
  answers = is.answers;
  best = is.best;
  common = is.common;
  end = is.end;
  leaves = is.leaves;
  spent = is.spent;
  paid = is.paid;
  idle = is.idle;
  over = is.over;
}

-- ---- the report
module _ (p : Program) (q : List ℤ) (n : ℕ) (r : Report) (stands : IsQuery p q) (lawful : IsJournalOf (query_of p q n) r.journal)
    (told : IsToldBy (board_by (query_of p q n) r) r) (closed : all_closed (board_by (query_of p q n) r).nodes ≡ true) (mode_is : r.results.mode ≡ Enum)
    (core : HasCore (query_of p q n) r.results.answers r.core) where
  abbrev t : Task
  t = query_of p q n

  abbrev b : Board
  b = board_by (query_of p q n) r

  task : b.task ≡ t
  task = task-is t r stands lawful told

  played : IsPlayed t r
  played = told-played t r stands lawful told

  enough : is_enough b ≡ false
  enough = ap (λ (x : Task). not (eqb x.limit 0) && leb x.limit (length (distinct b.answers))) task

  pub reports : IsQueryReport t r
  reports = record {
    end = told.end ∙ ap (λ e. end_by e (all_closed b.nodes)) enough ∙ ap (end_by false) closed;
    mode_is = mode_is;
    answers = played.answers ∙ HasResult-finished t r.journal stands lawful closed ∙ ap answers_of task;
    best = played.best ∙ ap (option_map (with_cost p)) (none-best p q n r stands lawful told);
    untold = played.common;
    core = core;
    program = told.paid.fits.program ∙ ap (λ (x : Task). x.program) task;
    spent = told.paid.burnt ∙ sym told.spent;
    budget = told-budget t r stands lawful told;
    reasoned = not-true r.paid.reasoned (λ e. false≢true (sym (ap (λ (x : Task). is_some (sought x.goal)) task) ∙ told.paid.fits.reasoned e));
    known = paid-known t r played;
    least = no-less r.paid.least (told-bounds t r stands lawful told);
    played = played;
  }

-- what is told of the book lists what was recorded
pub told-lists : (v : Booked) (r : Report) → IsWorkedThrough v → IsToldBy (board v) r → r.results.answers ≡ sorted_once (board v).answers
told-lists v r is told =
    let enum : (board v).task.goal ≡ goal.Enum = ap (λ (x : Task). x.goal) (board-task v ∙ is.asks) in
    told.answers ∙ ap (λ (x : Goal). sorted_once (listed_by (sought x) (board v).answers)) enum

-- of the book that was told
pub book-reports : (v : Booked) (r : Report) (o : Option (List ℤ)) → IsWorkedThrough v →
    IsJournalOf v.task v.journal → r.journal ≡ v.journal → IsToldBy (board v) r → r.results.mode ≡ Enum →
    o ≡ (if is_nothing (board v).answers then Some (blamed_by v.task.program (board v).reasons (wanted v.task)) else None) → IsQueryReport v.task (record r { core = o })
book-reports v r o is lawful journal told mode_is core_is =
    let t : Task = query_of v.task.program v.task.query v.task.budget in
    let s : Report = record r { core = o } in
    let core : List ℤ = blamed_by v.task.program (board v).reasons (wanted v.task) in
    let same : board v ≡ replay t r.journal = ap (λ (x : Task). replay x v.journal) is.asks ∙ ap (replay t) (sym journal) in
    let closed : all_closed (board v).nodes ≡ true = closed-by (is_enough (board v)) (all_closed (board v).nodes) (not-enough v (ap (λ (x : Task). x.limit) is.asks)) is.over in
    let kept : IsJournalOf t r.journal = subst (λ (x : Task). IsJournalOf x r.journal) is.asks (subst (IsJournalOf v.task) (sym journal) lawful) in
    let best : (board v).best ≡ None =
    subst (λ (x : Board). x.best ≡ None) (sym same)
    (none-best v.task.program v.task.query v.task.budget r is.query kept (subst (λ (x : Board). IsToldBy x r) same told)) in
    let by : HasCore v.task (sorted_once (board v).answers) (if is_nothing (board v).answers then Some core else None) =
    core-by v.task (sorted_once (board v).answers) (board v).answers core (once-nothing (board v).answers) (is-core v is lawful closed best) in
    let has : HasCore v.task r.results.answers o =
    subst (HasCore v.task r.results.answers) (sym core_is)
    (subst (λ (L : List Atoms). HasCore v.task L (if is_nothing (board v).answers then Some core else None)) (sym (told-lists v r is told)) by) in
    subst (λ (x : Task). IsQueryReport x s) (sym is.asks)
    (reports v.task.program v.task.query v.task.budget s is.query kept
    (subst (λ (x : Board). IsToldBy x s) same (told-beside (board v) r o told)) (subst (λ (x : Board). all_closed x.nodes ≡ true) same closed) mode_is
    (subst (λ (x : Task). HasCore x r.results.answers o) is.asks has))

-- ---- a search that found nothing is fresh
none-known : (A K : List Atoms) → AllByRecursion (λ S. IsTrue (list_any (same_set S) A)) K → sorted_once A ≡ [] → K ≡ []
none-known A [] h e = refl
none-known A (S ∷ K) h e = absurd (false≢true (sym (ap (λ (L : List Atoms). list_any (same_set S) L) e) ∙ (sorted-has [] A S ∙ h.0)))

pub still-fresh : (v : Booked) (s : Searching) (f : Units) → v.task.goal ≡ goal.Enum → IsAsking v s f → sorted_once (board v).answers ≡ [] → IsFresh v.task.program s
still-fresh v s f enum is none =
    let b : Board = board v in
    let g : b.task.goal ≡ goal.Enum = ap (λ (x : Task). x.goal) (board-task v) ∙ enum in
    let agrees : Agrees b s.known s.bound = is.ready.work.agrees in
    record {
      program = is.ready.program;
      mode_is = is.ready.mode_is;
      cube = is.entered;
      known = none-known b.answers s.known (recorded b.task.goal g agrees.recorded) none;
      bound = is.unbounded;
      learnt = is.learnt;
    }
  where
    recorded : (x : Goal) → x ≡ goal.Enum → AreRecorded (sought x) (board v).task.program s.known (showing x (board v).task.program (board v).answers) →
        AllByRecursion (λ S. IsTrue (list_any (same_set S) (board v).answers)) s.known
    recorded x e h = subst (λ (y : Goal). AreRecorded (sought y) (board v).task.program s.known (showing y (board v).task.program (board v).answers)) e h

-- ---- the units are given back
back-answers : (v w : Booked) (f : Units) → w ≡ with_events v (given_back 0 f) → (board w).answers ≡ (board v).answers
back-answers v w f now = here (eqb (f.left + f.burnt) 0) now
  where
    here : (x : Bool) → w ≡ with_events v (cond x [] (event.Back 0 f.left f.burnt ∷ [])) → (board w).answers ≡ (board v).answers
    here true now = ap (λ (z : Booked). (board z).answers) now
    here false now = ap (λ (z : Booked). (board z).answers) now ∙ ap (λ (b : Board). b.answers) (board-with v (event.Back 0 f.left f.burnt))

module _ (v w : Booked) (s : Searching) (f : Units) (is : IsBegun v s) (leased : IsLeased v w) (units : f ≡ all_of (board v)) where
  enum : v.task.goal ≡ goal.Enum
  enum = ap (λ (t : Task). t.goal) is.asks

  pub asking-begins : IsAsking w s f
  asking-begins = record {
    ready = ready-begins Enum None w s f (subst (λ (t : Task). QueryStands t) (sym leased.task) is.query)
        (leased-works Enum None v w f (inl ((false, enum), refl)) leased units)
        (is.fresh.program ∙ ap (λ (t : Task). t.program) (sym leased.task)) is.fresh.mode_is is.fresh.known is.fresh.bound;
    entered = is.fresh.cube;
    learnt = is.fresh.learnt;
    unlimited = ap (λ (t : Task). t.limit) (leased.task ∙ is.asks);
    unbounded = is.fresh.bound;
  }

  -- all is worked off, and the units are back
  pub over-all : (x y : Booked) (t : Searching) (g : Units) → ClosesAll w x t g → y ≡ with_events x (given_back 0 g) → IsOver v y t
  over-all x y t g closes now =
      let left = closes.leaves in
      let task : x.task ≡ v.task = left.task ∙ leased.task in
      record {
        task = task-after Enum w x y t g None left leased.pool now ∙ leased.task;
        idle = idle-after Enum w x y t g None left leased.pool now;
        over = finished Enum w x y t g None left leased.pool now;
        fresh = λ none.
            subst (λ (z : Task). IsFresh z.program t) task
            (still-fresh x t g (ap (λ (z : Task). z.goal) task ∙ enum) closes.asking (ap sorted_once (sym (back-answers x y g now)) ∙ none));
      }
