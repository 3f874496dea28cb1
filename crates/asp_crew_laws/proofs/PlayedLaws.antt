-- What a report says of the program follows from its journal.
use Rattle.std.proofs.Common.{◌≡◌, ℕ, zero, suc, ◌+◌, ◌<◌, ◌≤◌, Bool, true, false, not, eqb, leb, ◌&&◌, ◌||◌, List, [], ◌∷◌, length, filter, Option, Some, None, refl, sym, ap, ◌∙◌, subst, arith}
use Rattle.std.specs.Prelude.{ℤ, IfSome, IsTrue, option_map, option_to_list}
use Rattle.std.specs.List.{list_any, AllByRecursion}
use Rattle.std.specs.Option.{is_some}
use Rattle.std.specs.Cmp.Lexicographic.{same_text}
use Rattle.std.proofs.lemmas.Bool.{false≢true, and_parts, leb-false, leb-true, ne_eqb}
use Rattle.asp_model.specs.declared.program.Program.{Program}
use Rattle.asp_model.specs.declared.results.Ask.{Ask}
use Rattle.asp_model.specs.declared.results.Mode.{Mode}
use Rattle.asp_model.specs.declared.results.Mode.TheVariants.{Enum, Opt, Consequences}
use Rattle.asp_model.specs.declared.results.Reasoning.{Reasoning}
use Rattle.asp_model.specs.Asked.{reasoning_of}
use Rattle.asp_model.specs.Consequences.{common_sets, consequences_of, used_up}
use Rattle.asp_model.specs.declared.results.End.{End}
use Rattle.asp_model.specs.declared.results.End.TheVariants.{Finished, Limited, Unfinished}
use Rattle.asp_model.specs.Found.{Found}
use Rattle.asp_model.specs.Sets.{Atoms, same_set}
use Rattle.asp_model.specs.Models.{answers}
use Rattle.asp_model.specs.Costs.{cost, betters, optima}
use Rattle.asp_model.proofs.ConsequenceLaws.{AreAmong, used-common}
use Rattle.asp_model.proofs.ListedLaws.{contains_from_test}
use Rattle.asp_vars.specs.Literals.{Literal}
use Rattle.asp_vars.specs.Conflicts.{IsConflict}
use Rattle.asp_vars.specs.Entailment.{costs_bound, is_done, Settled}
use Rattle.asp_vars.specs.Paid.{Clash, IsAtLeast}
use Rattle.asp_vars.proofs.ResolutionLaws.{HitsOnly-weaker}
use Rattle.asp_path.specs.declared.status.Status.TheVariants as status
use Rattle.asp_path.specs.Trees.{Node, all_closed, is_unclosed, status_of}
use Rattle.asp_core.specs.declared.event.Event.{Event}
use Rattle.asp_core.specs.declared.goal.Goal.TheVariants as goal
use Rattle.asp_core.specs.declared.task.Task.{Task}
use Rattle.asp_core.specs.Units.{total_out}
use Rattle.asp_core.specs.Boards.{Board, start, IsBoundBy, IsQuery, bound_of, common_by, count_by, distinct, goal_of, is_answer, is_enough, known_count, listed_by, lists, optimises, showing, sought}
use Rattle.asp_core.specs.Invariant.{IsBoard}
use Rattle.asp_core.specs.Sorting.{sorted_once}
use Rattle.asp_core.proofs.AskedLaws.{showing_by-chosen, sought-none}
use Rattle.asp_core.proofs.CountLaws.{length-sorted_once}
use Rattle.asp_core.proofs.ResultLaws.{IsBoard-replay, task-run}
use Rattle.asp_core.proofs.SortingLaws.{has-answers_of, sorted-answers, sorted-has}
use Rattle.asp_core.proofs.UnitLaws.{total-home}
use Rattle.asp_book.specs.Books.{IsJournalOf}
use Rattle.asp_crew_laws.specs.declared.report.Report.{Report}
use Rattle.asp_crew_laws.specs.Runs.{asks, task_of, IsFound, with_cost}
use Rattle.asp_crew_laws.specs.Reports.{board_by, end_by, known_in, IsUnpaidAt, IsWorkedOff, IsToldBy, IsUnpaid, Ends, IsPlayed, IsPlayedBy, IsPriced, IsPart, IsAllFound, IsAsked, IsWhole, Says, IsReport}
use Rattle.asp_crew_laws.proofs.FoundLaws.{answers-same, none-best, none-kept, none-listed, sorted-nil, found-once}

is_finished : End → Bool
is_finished Finished = true
is_finished Limited = false
is_finished Unfinished = false

is_limited : End → Bool
is_limited Finished = false
is_limited Limited = true
is_limited Unfinished = false

pub closed-by : (enough closed : Bool) → end_by enough closed ≡ Finished → closed ≡ true
unfolding is_finished
closed-by true closed e = absurd (false≢true (ap is_finished e))
closed-by false true e = refl
closed-by false false e = ap is_finished e

enough-by : (enough closed : Bool) → end_by enough closed ≡ Limited → enough ≡ true
unfolding is_limited
enough-by true closed e = refl
enough-by false true e = ap is_limited e
enough-by false false e = ap is_limited e

-- what a mode's goal seeks
pub sought-mode : (mode : Mode) (n : Bool) → sought (goal_of mode n) ≡ reasoning_of mode
sought-mode Enum n = refl
sought-mode Opt n = refl
sought-mode (Consequences r) n = refl

-- A finished report has found what was asked.
pub finished-found : (p : Program) (ask : Ask) (units : ℕ) (r : Report) → IsPlayed (task_of p ask units) r → r.results.end ≡ Finished →
    IsFound ask.by_name p ask.mode r.results.answers r.results.best r.results.known
finished-found p ask units r is e =
    subst (λ (o : Option (Atoms × List ℤ)). IsFound ask.by_name p ask.mode r.results.answers o r.results.known) (sym is.best)
    (subst (λ (o : Option Atoms). IsFound ask.by_name p ask.mode r.results.answers (option_map (with_cost p) (board_by (task_of p ask units) r).best)
    o) (sym (is.common ∙ ap (λ (k : Option Reasoning). common_by k p
    (showing (goal_of ask.mode ask.by_name) p (board_by (task_of p ask units) r).answers)) (sought-mode ask.mode ask.by_name)))
    (found-once p ask units r.journal r.results.answers is.lawful
    (closed-by (is_enough (board_by (task_of p ask units) r)) (all_closed (board_by (task_of p ask units) r).nodes) (sym is.end ∙ e))
    (is.answers ∙ ap (λ (k : Option Reasoning). sorted_once (listed_by k (board_by (task_of p ask units) r).answers))
    (sought-mode ask.mode ask.by_name))))

-- No conflict that was paid for knew more answers than are reported.
listed-common : (w : Reasoning) (p : Program) (A : List Atoms) → common_sets w p A ≡ option_to_list (consequences_of w p A)
listed-common w p [] = refl
listed-common w p (S ∷ A) = refl

pub count-reported : (k : Option Reasoning) (p : Program) (A D : List Atoms) (r : Found) → (k ≡ None → D ≡ A) →
    r.answers ≡ sorted_once (listed_by k A) → r.known ≡ common_by k p D → count_by k p D ≡ length (known_in k r)
count-reported None p A D r same answers known = ap (λ (L : List Atoms). length (distinct L)) (same refl) ∙ sym (ap length answers ∙ length-sorted_once A)
count-reported (Some w) p A D r same answers known = ap length (listed-common w p D) ∙ ap (λ (o : Option Atoms). length (option_to_list o)) (sym known)

-- What is reported uses up the same sets as what was delivered.
used-reported : (k : Option Reasoning) (p : Program) (A D : List Atoms) (r : Found) → (k ≡ None → D ≡ A) → r.answers ≡ sorted_once (listed_by k A) → r.known ≡ common_by k p D → (S : Atoms) →
    list_any (same_set S) (used_up k p D) ≡ list_any (same_set S) (used_up k p (known_in k r))
used-reported None p A D r same answers known S =
    ap (λ (L : List Atoms). list_any (same_set S) L) (same refl) ∙ sym (sorted-has [] A S)
    ∙ ap (λ (L : List Atoms). list_any (same_set S) L) (sym answers)
used-reported (Some w) p A D r same answers known S =
    ap (λ (U : List Atoms). list_any (same_set S) U) (sym (used-common w p D) ∙ ap (used_up (Some w) p) (listed-common w p D ∙ ap (λ (o : Option Atoms). option_to_list o) (sym known)))

-- what a report's board is for
played-task : (t : Task) (r : Report) → IsPlayed t r → (board_by t r).task ≡ t
played-task t r is = task-run (start t) r.journal

pub paid-known : (t : Task) (r : Report) → IsPlayed t r → r.paid.known ≤ length (known_in (sought t.goal) r.results)
paid-known t r is =
    let A : List Atoms = (board_by t r).answers in
    let shown : List Atoms = showing t.goal t.program A in
    let count : known_count (board_by t r) ≡ count_by (sought t.goal) t.program shown = ap (λ (x : Task). count_by (sought x.goal) x.program (showing x.goal x.program A)) (played-task t r is) in
    omega (arith, is.paid.fits.known, count, count-reported (sought t.goal) t.program A shown r.results (sought-none t.goal t.program A) is.answers is.common)

-- ---- a part of the answers
pub listed-answers : (t : Task) (A : List Atoms) (S : Atoms) → AllByRecursion (λ T. IsTrue (lists t T) × IsTrue (is_answer t T)) A → list_any (same_set S) A ≡ true → is_answer t S ≡ true
listed-answers t [] S h e = absurd (false≢true e)
listed-answers t (T ∷ A) S h e = here (same_set S T) refl e (listed-answers t A S h.1)
  where
    here : (x : Bool) → x ≡ same_set S T → (x || list_any (same_set S) A) ≡ true → (list_any (same_set S) A ≡ true → is_answer t S ≡ true) → is_answer t S ≡ true
    here true q e rest = ap (is_answer t) (same_text S T q) ∙ h.0.1
    here false q e rest = rest e

both : (x y : Bool) → (y ≡ true → x ≡ true) → y ≡ (x && y)
both x true h = sym (ap (λ z. z && true) (h refl))
both true false h = refl
both false false h = refl

module _ (p : Program) (n units : ℕ) (named : Bool) (r : Report) where
  part-by : (mode : Mode) → IsPlayed (task_of p (asks mode n named) units) r → IsBoard (board_by (task_of p (asks mode n named) units) r) →
      (board_by (task_of p (asks mode n named) units) r).task ≡ task_of p (asks mode n named) units → IsPart named p mode r.results
  part-by Enum is board task =
      let b : Board = board_by (task_of p (asks Enum n named) units) r in
      let t : Task = task_of p (asks Enum n named) units in
      let q : Atoms → Bool = λ S. list_any (same_set S) b.answers in
      let delivered : AllByRecursion (λ T. IsTrue (lists t T) × IsTrue (is_answer t T)) b.answers =
      subst (λ (x : Task). AllByRecursion (λ T. IsTrue (lists x T) × IsTrue (is_answer x T)) b.answers) task board.delivered in (
        (q, is.answers ∙ sorted-answers t q b.answers (λ S. both (is_answer t S) (q S) (λ h. listed-answers t b.answers S delivered h)) ∙ ap (filter q) (answers-same p (asks Enum n named) units)),
        is.best ∙ ap (option_map (with_cost p)) (none-kept b.task b.best (ap (λ (x : Task). x.goal) task) board.best),
      )
  part-by (Consequences w) is board task =
      let b : Board = board_by (task_of p (asks (Consequences w) n named) units) r in
      let t : Task = task_of p (asks (Consequences w) n named) units in
      let q : Atoms → Bool = λ S. list_any (same_set S) b.answers in
      let delivered : AllByRecursion (λ T. IsTrue (lists t T) × IsTrue (is_answer t T)) b.answers =
      subst (λ (x : Task). AllByRecursion (λ T. IsTrue (lists x T) × IsTrue (is_answer x T)) b.answers) task board.delivered in
      let among : AreAmong b.answers (answers p) = λ S h.
      ap (λ (L : List Atoms). list_any (same_set S) L) (sym (answers-same p (asks (Consequences w) n named) units)) ∙ has-answers_of t S ∙ listed-answers t b.answers S delivered h in (
        is.answers,
        is.best ∙ ap (option_map (with_cost p)) (none-best b.task b.best (ap (λ (x : Task). optimises x.goal) task) board.best),
        (q, is.common ∙ showing_by-chosen named w p b.answers (answers p) among),
      )
  part-by Opt is board task =
      let b : Board = board_by (task_of p (asks Opt n named) units) r in (
        is.answers ∙ sorted-nil b.answers (none-listed b.task b.answers (ap (λ (x : Task). x.goal) task) board.delivered),
        subst (λ (o : Option (Atoms × List ℤ)). IfSome o (IsPriced p)) (sym is.best)
            (priced b.best (subst (λ (x : Task). IfSome b.best (λ S. IsTrue (optimises x.goal) × IsTrue (is_answer x S))) task board.best)),
      )
    where
      priced : (o : Option Atoms) → IfSome o (λ S. IsTrue (optimises goal.Opt) × IsTrue (is_answer (task_of p (asks Opt n named) units) S)) → IfSome (option_map (with_cost p) o) (IsPriced p)
      priced None h = tt
      priced (Some S) h = (
        contains_from_test (answers p) S
            (ap (λ (L : List Atoms). list_any (same_set S) L) (sym (answers-same p (asks Opt n named) units))
            ∙ has-answers_of (task_of p (asks Opt n named) units) S ∙ h.1),
        refl,
      )

-- ---- a bound that the search may have had is at least the best's cost
at_least-by : (mode : Mode) (named : Bool) (p : Program) (best : Option Atoms) (o : Option (List ℤ)) →
    IfSome o (IsBoundBy (goal_of mode named) p best) → IsAtLeast (option_map (λ x. x.1) (option_map (with_cost p) best)) o
at_least-by mode named p best None h = tt
at_least-by Enum named p best (Some c) h = absurd h
at_least-by (Consequences w) named p best (Some c) h = absurd h
at_least-by Opt named p None (Some c) h = absurd h
at_least-by Opt named p (Some S) (Some c) h = ap not h

-- ---- a conflict by what was recorded is one by what is reported
settled-more : (p : Program) (K L : List Atoms) (b c : Option (List ℤ)) (way : List Literal) →
    ((S : Atoms) → list_any (same_set S) K ≡ list_any (same_set S) L) → b ≡ c → Settled p K b way → Settled p L c way
settled-more p K L b c way same e =
    HitsOnly-weaker p (is_done p K b) (is_done p L c) way
    (λ S h. ap (λ x. x || costs_bound p c S) (sym (same S)) ∙ ap (λ (o : Option (List ℤ)). list_any (same_set S) K || costs_bound p o S) (sym e)
    ∙ h)

conflict-more : (p : Program) (K L : List Atoms) (b c : Option (List ℤ)) (x : Clash) →
    ((S : Atoms) → list_any (same_set S) K ≡ list_any (same_set S) L) → b ≡ c → IsConflict p K b x.cube x.decisions x.nogood →
    IsConflict p L c x.cube x.decisions x.nogood
conflict-more p K L b c x same e is = record {
  decided = is.decided;
  consistent = is.consistent;
  unbroken = is.unbroken;
  open_true = is.open_true;
  open_false = is.open_false;
  new = is.new;
  settled = settled-more p K L b c _ same e is.settled;
  justified = settled-more p K L b c _ same e is.justified;
}

-- ---- where a leaf is open, not all are closed
pub open-left : (nodes : List Node) (n : ℕ) → status_of nodes n ≡ status.Open → all_closed nodes ≡ false
open-left [] n e = absurd (let f : ⊥ = cc in f)
open-left (x ∷ nodes) zero e = ap (λ s. not (is_unclosed s) && all_closed nodes) e
open-left (x ∷ nodes) (suc n) e = ap (λ y. not (is_unclosed x.status) && y) (open-left nodes n e) ∙ none (not (is_unclosed x.status))
  where
    none : (a : Bool) → (a && false) ≡ false
    none true = refl
    none false = refl

-- ---- a limit
not-zero : (k : ℕ) → not (eqb k 0) ≡ true → 0 < k
not-zero zero h = absurd (false≢true h)
not-zero (suc k) h = omega arith

-- With a limit, as many different answers were delivered exactly where it is enough.
module _ (t : Task) (r : Report) (is : IsPlayed t r) (board : IsBoard (board_by t r)) (task : (board_by t r).task ≡ t) where
  limit : (board_by t r).task.limit ≡ t.limit
  limit = ap (λ (x : Task). x.limit) task

  count : sought t.goal ≡ None → length r.results.answers ≡ length (distinct (board_by t r).answers)
  count none = ap length (is.answers ∙ ap (λ (k : Option Reasoning). sorted_once (listed_by k (board_by t r).answers)) none) ∙ length-sorted_once (board_by t r).answers

  enough-some : is_enough (board_by t r) ≡ true → 0 < t.limit
  enough-some e =
      let b : Board = board_by t r in
      let some : 0 < b.task.limit = not-zero b.task.limit (and_parts (not (eqb b.task.limit 0)) (leb b.task.limit (length (distinct b.answers))) e).0 in
      omega (arith, some, limit)

  enough-asked : sought t.goal ≡ None → is_enough (board_by t r) ≡ true → length r.results.answers ≡ t.limit
  enough-asked none e =
      let b : Board = board_by t r in
      let parts = and_parts (not (eqb b.task.limit 0)) (leb b.task.limit (length (distinct b.answers))) e in
      let some : 0 < b.task.limit = not-zero b.task.limit parts.0 in
      omega (arith, count none, limit, board.limited some, leb-true b.task.limit (length (distinct b.answers)) parts.1)

  was-enough : r.results.end ≡ Limited → is_enough (board_by t r) ≡ true
  was-enough q = enough-by (is_enough (board_by t r)) (all_closed (board_by t r).nodes) (sym is.end ∙ q)

  pub limited-some : r.results.end ≡ Limited → 0 < t.limit
  limited-some q = enough-some (was-enough q)

  pub at-limit : sought t.goal ≡ None → r.results.end ≡ Limited → (0 < t.limit) × (length r.results.answers ≡ t.limit)
  at-limit none q = (limited-some q, enough-asked none (was-enough q))

  less : sought t.goal ≡ None → (enough closed : Bool) → enough ≡ is_enough (board_by t r) → r.results.end ≡ end_by enough closed →
      (r.results.end ≡ Limited → ⊥) → 0 < t.limit → length r.results.answers < t.limit
  less none true closed e end other some = absurd (other end)
  less none false closed e end other some =
      let b : Board = board_by t r in
      let f : leb b.task.limit (length (distinct b.answers)) ≡ false =
      and-first (not (eqb b.task.limit 0)) (leb b.task.limit (length (distinct b.answers))) (is-not b.task.limit (omega (arith, some, limit)))
      (sym e) in
      omega (arith, count none, limit, leb-false b.task.limit (length (distinct b.answers)) f)
    where
      is-not : (k : ℕ) → 0 < k → not (eqb k 0) ≡ true
      is-not k h = ap not (ne_eqb k 0 (λ z. omega (arith, z, h)))

      and-first : (x y : Bool) → x ≡ true → (x && y) ≡ false → y ≡ false
      and-first true y e h = h
      and-first false y e h = absurd (false≢true e)

  pub under-limit : sought t.goal ≡ None → (r.results.end ≡ Limited → ⊥) → 0 < t.limit → length r.results.answers < t.limit
  under-limit none = less none (is_enough (board_by t r)) (all_closed (board_by t r).nodes) refl is.end

-- an enumeration at its limit; an optimisation lists nothing
limited-asked : (p : Program) (mode : Mode) (n : ℕ) (named : Bool) (r : Found) → IsPart named p mode r → (0 < n) × (length r.answers ≡ n) → IsAsked p (asks mode n named) r
limited-asked p Enum n named r part at = record { listing = refl; some = at.0; count = at.1; part = part; best = tt }
limited-asked p Opt n named r part at = absurd (let f : ⊥ = omega (arith, at.0, at.1, ap length part.0) in f)
limited-asked p (Consequences w) n named r part at = absurd (let f : ⊥ = omega (arith, at.0, at.1, ap length part.0) in f)

-- what a mode's first search says at its limit, which a search for consequences has none of
limited-says : (p : Program) (mode : Mode) (n units : ℕ) (named : Bool) (r : Report) → IsPlayed (task_of p (asks mode n named) units) r →
    IsBoard (board_by (task_of p (asks mode n named) units) r) →
    (board_by (task_of p (asks mode n named) units) r).task ≡ task_of p (asks mode n named) units →
    IsPart named p mode r.results → r.results.end ≡ Limited → IsAsked p (asks mode n named) r.results
limited-says p Enum n units named r is board task part q = limited-asked p Enum n named r.results part (at-limit (task_of p (asks Enum n named) units) r is board task refl q)
limited-says p Opt n units named r is board task part q = limited-asked p Opt n named r.results part (at-limit (task_of p (asks Opt n named) units) r is board task refl q)
limited-says p (Consequences w) n units named r is board task part q = absurd (let f : ⊥ = omega (arith, limited-some (task_of p (asks (Consequences w) n named) units) r is board task q) in f)

-- ---- a report that tells what the board has
module _ (t : Task) (r : Report) (query : IsQuery t.program t.query) (lawful : IsJournalOf t r.journal) (told : IsToldBy (board_by t r) r) where
  pub is-board : IsBoard (board_by t r)
  is-board = IsBoard-replay t r.journal query lawful

  pub task-is : (board_by t r).task ≡ t
  task-is = task-run (start t) r.journal

  program : (board_by t r).task.program ≡ t.program
  program = ap (λ (x : Task). x.program) task-is

  answers-told : r.results.answers ≡ sorted_once (listed_by (sought t.goal) (board_by t r).answers)
  answers-told = told.answers ∙ ap (λ (x : Task). sorted_once (listed_by (sought x.goal) (board_by t r).answers)) task-is

  abbrev shown : List Atoms
  shown = showing t.goal t.program (board_by t r).answers

  common-told : r.results.known ≡ common_by (sought t.goal) t.program shown
  common-told = told.common ∙ ap (λ (x : Task). common_by (sought x.goal) x.program (showing x.goal x.program (board_by t r).answers)) task-is

  count-told : known_count (board_by t r) ≡ length (known_in (sought t.goal) r.results)
  count-told = ap (λ (x : Task). count_by (sought x.goal) x.program (showing x.goal x.program (board_by t r).answers)) task-is
      ∙ count-reported (sought t.goal) t.program (board_by t r).answers shown r.results (sought-none t.goal t.program (board_by t r).answers)
      answers-told common-told

  best : r.results.best ≡ option_map (with_cost t.program) (board_by t r).best
  best = told.best ∙ ap (λ (q : Program). option_map (with_cost q) (board_by t r).best) program

  home : total_out (board_by t r).out ≡ 0
  home = total-home (board_by t r).out is-board.single told.idle.home

  unpaid : (leaf : ℕ) (x : Clash) → IsUnpaidAt (board_by t r) x leaf → IsUnpaid t (board_by t r) r.results x
  unpaid leaf x is =
      let b : Board = board_by t r in
      record {
        program = is.met.program ∙ program;
        leaf = leaf;
        unclosed = ap is_unclosed is.unclosed;
        cube = is.cube;
        reasoning = is.met.reasoning ∙ ap (λ (y : Task). sought y.goal) task-is;
        known = omega (arith, is.met.known, count-told);
        bound = is.met.bound;
        conflict =
            conflict-more t.program (used_up (sought t.goal) t.program shown) (used_up (sought t.goal) t.program (known_in (sought t.goal) r.results)) (bound_of b) (bound_of b) x
            (used-reported (sought t.goal) t.program b.answers shown r.results (sought-none t.goal t.program b.answers) answers-told common-told) refl
            (subst (λ (y : Task). IsConflict y.program (used_up (sought y.goal) y.program (showing y.goal y.program b.answers)) (bound_of b) x.cube x.decisions x.nogood) task-is is.met.conflict);
      }

  ends-by : (o : Option Clash) → r.unpaid ≡ o → IsWorkedOff (board_by t r) o → Ends t (board_by t r) r r.results.end
  ends-by None e over = subst (Ends t (board_by t r) r) (sym told.end) (here (is_enough (board_by t r)) (all_closed (board_by t r).nodes) over)
    where
      here : (enough closed : Bool) → (enough || closed) ≡ true → Ends t (board_by t r) r (end_by enough closed)
      here true closed h = e
      here false true h = e
      here false false h = absurd (false≢true h)
  ends-by (Some x) e over =
      let b : Board = board_by t r in
      subst (Ends t (board_by t r) r) (sym (told.end ∙ ap (λ enough. end_by enough (all_closed b.nodes)) over.0 ∙ ap (end_by false) (open-left b.nodes over.2.0 over.2.1.unclosed)))
      (over.1, omega (arith, told.spent, over.1, home, is-board.units), (x, e, unpaid over.2.0 x over.2.1))

  pub told-played : IsPlayed t r
  told-played = record {
    lawful = lawful;
    answers = answers-told;
    best = best;
    common = common-told;
    end = told.end;
    leaves = told.leaves;
    spent = told.spent;
    home = home;
    paid = told.paid;
    ends = ends-by r.unpaid refl told.over;
  }

  -- what is left and what was spent are the budget
  pub told-budget : r.paid.left + r.spent ≡ t.budget
  told-budget = omega (arith, told.paid.left, told.spent, is-board.units, home, ap (λ (x : Task). x.budget) task-is)

  -- where a run is unfinished nothing is left
  pub told-left : r.results.end ≡ Unfinished → r.paid.left ≡ 0
  told-left q = told.paid.left ∙ (subst (Ends t (board_by t r) r) q told-played.ends).0

  -- no bound was used that the search couldn't have
  pub told-bounds : IfSome r.paid.least (IsBoundBy t.goal t.program (board_by t r).best)
  told-bounds = subst (λ (x : Task). IfSome r.paid.least (IsBoundBy x.goal x.program (board_by t r).best)) task-is told.paid.fits.least

-- the report of a first search
module _ (p : Program) (mode : Mode) (n units : ℕ) (named : Bool) (r : Report) (lawful : IsJournalOf (task_of p (asks mode n named) units) r.journal)
    (told : IsToldBy (board_by (task_of p (asks mode n named) units) r) r) where
  first-played : IsPlayed (task_of p (asks mode n named) units) r
  first-played = told-played (task_of p (asks mode n named) units) r tt lawful told

  first-part : IsPart named p mode r.results
  first-part = part-by p n units named r mode first-played (is-board (task_of p (asks mode n named) units) r tt lawful told) (task-is (task_of p (asks mode n named) units) r tt lawful told)

  says-by : (e : End) → r.results.end ≡ e → Says p (asks mode n named) r e
  says-by Finished q = finished-found p (asks mode n named) units r first-played q
  says-by Limited q =
      limited-says p mode n units named r first-played (is-board (task_of p (asks mode n named) units) r tt lawful told) (task-is (task_of p (asks mode n named) units) r tt lawful told) first-part q
  says-by Unfinished q = (first-part, told-left (task_of p (asks mode n named) units) r tt lawful told q)

  sought-here : sought (board_by (task_of p (asks mode n named) units) r).task.goal ≡ reasoning_of mode
  sought-here = ap (λ (x : Task). sought x.goal) (task-is (task_of p (asks mode n named) units) r tt lawful told) ∙ sought-mode mode named

  pub told-reports : r.second ≡ None → r.results.mode ≡ mode → IsReport p (asks mode n named) units r
  told-reports alone mode_is = record {
    mode_is = mode_is;
    says = says-by r.results.end refl;
    program = told.paid.fits.program ∙ ap (λ (x : Task). x.program) (task-is (task_of p (asks mode n named) units) r tt lawful told);
    spent = told.paid.burnt ∙ sym told.spent;
    budget = told-budget (task_of p (asks mode n named) units) r tt lawful told;
    reasoned = λ e. sym (ap is_some sought-here) ∙ told.paid.fits.reasoned e;
    known = subst (λ (k : Option Reasoning). r.paid.known ≤ length (known_in k r.results)) (sought-mode mode named) (paid-known (task_of p (asks mode n named) units) r first-played);
    untold = λ e. first-played.common ∙ ap (λ (k : Option Reasoning). common_by k p
        (showing (goal_of mode named) p (board_by (task_of p (asks mode n named) units) r).answers)) (sought-mode mode named ∙ e);
    least =
        subst (λ (o : Option (Atoms × List ℤ)). IsAtLeast (option_map (λ y. y.1) o) r.paid.least) (sym first-played.best)
        (at_least-by mode named p (board_by (task_of p (asks mode n named) units) r).best r.paid.least (told-bounds (task_of p (asks mode n named) units) r tt lawful told));
    played = subst (λ (o : Option (List Event)). IsPlayedBy o p (asks mode n named) units r) (sym alone) first-played;
  }

-- A first search has found a part at least.
pub played-part : (p : Program) (ask : Ask) (units : ℕ) (r : Report) → IsPlayed (task_of p ask units) r → IsPart ask.by_name p ask.mode r.results
played-part p ask units r is = part-by p ask.models units ask.by_name r ask.mode is (IsBoard-replay (task_of p ask units) r.journal tt is.lawful) (task-run (start (task_of p ask units)) r.journal)

-- ---- a run that is left to one search
-- the optima are those of the answers
optima-none : (p : Program) → answers p ≡ [] → optima p ≡ []
optima-none p e = ap (λ (A : List Atoms). filter (λ S. not (list_any (λ T. betters (cost p T) (cost p S)) A)) A) e

whole-found : (named : Bool) (p : Program) (L : List Atoms) (best : Option (Atoms × List ℤ)) (known : Option Atoms) →
    IsFound named p Opt L best known → IsWhole true Finished best → IsAllFound true named p Opt L best known
whole-found named p L None known found whole = (found.0 ∙ sym (optima-none p found.1), found.1)
whole-found named p L (Some b) known found whole = absurd whole

whole-says : (p : Program) (mode : Mode) (n : ℕ) (named : Bool) (r : Report) (e : End) → IsWhole true e r.results.best →
    Says p (asks mode n named) r e → Says p (record { mode = mode; models = n; all_optima = true; by_name = named }) r e
whole-says p Enum n named r Finished whole h = h
whole-says p Enum n named r Limited whole h = record { listing = refl; some = h.some; count = h.count; part = h.part; best = tt }
whole-says p Enum n named r Unfinished whole h = h
whole-says p Opt n named r Finished whole h = whole-found named p r.results.answers r.results.best r.results.known h whole
whole-says p (Consequences w) n named r Finished whole h = h
whole-says p (Consequences w) n named r Limited whole h = absurd (false≢true h.listing)
whole-says p (Consequences w) n named r Unfinished whole h = h
whole-says p Opt n named r Limited whole h = absurd (false≢true h.listing)
whole-says p Opt n named r Unfinished whole h = ((((λ S. false), h.0.0 ∙ sym (none-chosen (optima p))), h.0.1), h.1)
  where
    none-chosen : (L : List Atoms) → filter (λ (S : Atoms). false) L ≡ []
    none-chosen [] = refl
    none-chosen (S ∷ L) = none-chosen L

alone-by : (all named : Bool) (p : Program) (mode : Mode) (n units : ℕ) (r : Report) → IsReport p (asks mode n named) units r → r.second ≡ None →
    IsWhole all r.results.end r.results.best → IsReport p (record { mode = mode; models = n; all_optima = all; by_name = named }) units r
alone-by false named p mode n units r is alone whole = is
alone-by true named p mode n units r is alone whole = record {
  mode_is = is.mode_is;
  says = whole-says p mode n named r r.results.end whole is.says;
  program = is.program;
  spent = is.spent;
  budget = is.budget;
  reasoned = is.reasoned;
  known = is.known;
  untold = is.untold;
  least = is.least;
  played = subst (λ (o : Option (List Event)). IsPlayedBy o p (record { mode = mode; models = n; all_optima = true; by_name = named }) units r)
      (sym alone) (subst (λ (o : Option (List Event)). IsPlayedBy o p (asks mode n named) units r) alone is.played);
}

pub alone-reports : (p : Program) (ask : Ask) (units : ℕ) (r : Report) → IsReport p (asks ask.mode ask.models ask.by_name) units r → r.second ≡ None →
    IsWhole ask.all_optima r.results.end r.results.best → IsReport p ask units r
alone-reports p ask units r = alone-by ask.all_optima ask.by_name p ask.mode ask.models units r
