-- What a finished board has.
use Rattle.std.proofs.Common.{◌≡◌, ℕ, ◌+◌, ◌<◌, Bool, true, false, not, cond, ◌&&◌, ◌||◌, List, [], ◌∷◌, filter, Option, Some, None, refl, sym, ap, ◌∙◌, subst, arith}
use Rattle.std.specs.Prelude.{IsTrue, MatchOption}
use Rattle.std.specs.Option.{IfSome}
use Rattle.std.specs.List.{list_any, AllByRecursion}
use Rattle.std.specs.Cmp.Lexicographic.{same_text}
use Rattle.std.proofs.lemmas.Bool.{false≢true, and_parts, and_from, false_from_ne_true}
use Rattle.std.proofs.lemmas.List.Sums.{sum_by-cons}
use Rattle.asp_model.specs.Sets.{Atoms, same_set}
use Rattle.asp_model.specs.Holding.{all_hold}
use Rattle.asp_model.specs.Models.{is_stable, models}
use Rattle.asp_model.specs.Costs.{cost, betters}
use Rattle.asp_model.proofs.MemberLaws.{each_weaker, one_passes}
use Rattle.asp_model.proofs.ModelLaws.{same_bools, models-are}
use Rattle.asp_model.proofs.ListedLaws.{contains_from_test, test_from_contains}
use Rattle.asp_model.proofs.ConsequenceLaws.{listed-filter, used-covered}
use Rattle.asp_model.specs.Consequences.{used_up, consequences_of}
use Rattle.asp_vars.specs.Literals.{hits}
use Rattle.asp_vars.specs.Numbering.{values}
use Rattle.asp_vars.specs.Entailment.{costs, costs_bound, is_done}
use Rattle.asp_vars.proofs.ResolutionLaws.{not_true}
use Rattle.asp_path.specs.declared.status.Status.{Status}
use Rattle.asp_path.specs.declared.status.Status.TheVariants as status
use Rattle.asp_path.specs.Trees.{Node, is_leaf, is_unclosed, leaves_hit, all_closed}
use Rattle.asp_core.specs.declared.event.Event.{Event}
use Rattle.asp_core.specs.declared.event.Event.TheVariants as event
use Rattle.asp_core.specs.declared.goal.Goal.{Goal}
use Rattle.asp_core.specs.declared.goal.Goal.TheVariants as goal
use Rattle.asp_core.specs.declared.task.Task.{Task}
use Rattle.asp_core.specs.Boards.{Board, IsQuery, wanted, is_answer, start, lists_by, lists, optimises, sought, bound_by, used, is_excused, showing, showing_by}
use Rattle.asp_core.specs.Events.{happens, run, IsLawful, replay}
use Rattle.asp_core.specs.Invariant.{IsSettled, IsBoard, IsOptimum, HasResult}
use Rattle.asp_core.specs.Sorting.{answers_of}
use Rattle.asp_core.proofs.AskedLaws.{showing_by-covered}
use Rattle.asp_core.proofs.SortingLaws.{sorted-answers}
use Rattle.asp_core.proofs.BoardLaws.{IsBoard-start, IsBoard-happens}

pub IsBoard-run : (b : Board) (journal : List Event) → IsBoard b → IsLawful b journal → IsBoard (run b journal)
IsBoard-run b [] is lawful = is
IsBoard-run b (e ∷ journal) is lawful = IsBoard-run (happens b e) journal (IsBoard-happens b e is lawful.0) lawful.1

pub IsBoard-replay : (t : Task) (journal : List Event) → IsQuery t.program t.query → IsLawful (start t) journal → IsBoard (replay t journal)
IsBoard-replay t journal query lawful = IsBoard-run (start t) journal (IsBoard-start t query) lawful

task-happens : (b : Board) (e : Event) → (happens b e).task ≡ b.task
task-happens b (event.Take s leaf) = refl
task-happens b (event.Split s leaf l) = refl
task-happens b (event.Deliver s S) = refl
task-happens b (event.Improve s S) = refl
task-happens b (event.Close s leaf n) = refl
task-happens b (event.Release s leaf) = refl
task-happens b (event.Lease s n) = refl
task-happens b (event.Back s left burnt) = refl

pub task-run : (b : Board) (journal : List Event) → (run b journal).task ≡ b.task
task-run b [] = refl
task-run b (e ∷ journal) = task-run (happens b e) journal ∙ task-happens b e

-- ---- each answer is excused
closed_leaf : (s : Status) → is_leaf s ≡ true → not (is_unclosed s) ≡ true → s ≡ status.Closed
closed_leaf status.Open h n = absurd (false≢true n)
closed_leaf (status.Held t) h n = absurd (false≢true n)
closed_leaf status.Closed h n = refl
closed_leaf status.Forked h n = absurd (false≢true h)

excused-hit : (b : Board) (S : Atoms) (nodes : List Node) → AllByRecursion (IsSettled b) nodes → all_closed nodes ≡ true →
    is_stable b.task.program S ≡ true → 0 < leaves_hit (values b.task.program S) nodes → is_excused b S ≡ true
excused-hit b S [] settled closed stable some = absurd (omega arith)
excused-hit b S (n ∷ nodes) settled closed stable some =
    let parts = and_parts (not (is_unclosed n.status)) (all_closed nodes) closed in
    here (is_leaf n.status && hits (values b.task.program S) n.cube) refl parts.0 (sum_by-cons (λ (x : Node). cond (is_leaf x.status && hits (values b.task.program S) x.cube) 1 0) n nodes)
    (excused-hit b S nodes settled.1 parts.1 stable)
  where
    here : (x : Bool) → x ≡ (is_leaf n.status && hits (values b.task.program S) n.cube) → not (is_unclosed n.status) ≡ true →
        leaves_hit (values b.task.program S) (n ∷ nodes) ≡ cond (is_leaf n.status && hits (values b.task.program S) n.cube) 1 0 + leaves_hit (values b.task.program S) nodes →
        (0 < leaves_hit (values b.task.program S) nodes → is_excused b S ≡ true) → is_excused b S ≡ true
    here true q shut e rest =
        let hit = and_parts (is_leaf n.status) (hits (values b.task.program S) n.cube) (sym q) in
        (settled.0 (closed_leaf n.status hit.0 shut)).excused S stable hit.1
    here false q shut e rest = rest (omega (arith, e, some, ap (λ x. let k : ℕ = cond x 1 0 in k) q))

pub answers-excused : (b : Board) → IsBoard b → all_closed b.nodes ≡ true → (S : Atoms) → is_answer b.task S ≡ true → is_excused b S ≡ true
answers-excused b is closed S answer =
    let parts = and_parts (is_stable b.task.program S) (all_hold S (wanted b.task)) answer in
    excused-hit b S b.nodes is.settled closed parts.0 (omega (arith, is.covered S parts.1))

-- ---- the result, by the goal
or-false : (a : Bool) → (a || false) ≡ true → a ≡ true
or-false true h = refl
or-false false h = h

none_listed : (t : Task) (A : List Atoms) → AllByRecursion (λ S. IsTrue (lists_by goal.Opt t.program S) × IsTrue (is_answer t S)) A → A ≡ []
none_listed t [] h = refl
none_listed t (S ∷ A) h = absurd (false≢true h.0.0)

pub delivered_all : (m : Goal) (t : Task) (A : List Atoms) (S : Atoms) → AllByRecursion (λ T. IsTrue (lists_by m t.program T) × IsTrue (is_answer t T)) A → list_any (same_set S) A ≡ true →
    (is_answer t S && lists_by m t.program S) ≡ true
delivered_all m t A S h any =
    let Fits : Atoms → Type 0 = λ T. (is_answer t T && lists_by m t.program T) ≡ true in
    one_passes (Fits S) (same_set S) A
    (each_weaker (λ T. IsTrue (lists_by m t.program T) × IsTrue (is_answer t T)) (λ T. same_set S T ≡ true → Fits S)
    (λ T g e. subst Fits (sym (same_text S T (sym e))) (and_from (is_answer t T) (lists_by m t.program T) g.1 g.0)) A h) any

or_else : (a b : Bool) → (a || b) ≡ true → not b ≡ true → a ≡ true
or_else true b h n = refl
or_else false b h n = absurd (false≢true (sym (not_true b n) ∙ h))

-- the list of the answers has exactly these
listed-answers : (t : Task) (S : Atoms) → list_any (same_set S) (answers_of t) ≡ is_answer t S
listed-answers t S = listed-filter (λ T. all_hold T (wanted t)) (models t.program) S
    ∙ turned (all_hold S (wanted t)) (is_stable t.program S) (list_any (same_set S) (models t.program))
    (same_bools (list_any (same_set S) (models t.program)) (is_stable t.program S)
    (λ h. (models-are t.program S).0 (contains_from_test (models t.program) S h))
    (λ h. test_from_contains (models t.program) S ((models-are t.program S).1 h)))
  where
    turned : (x y z : Bool) → z ≡ y → (x && z) ≡ (y && x)
    turned true true z e = e
    turned true false z e = e
    turned false true z e = refl
    turned false false z e = refl

-- what HasResult says of the board's parts
abbrev Result : Goal → Task → List Atoms → Option Atoms → Type 0
Result goal.Enum t A best = (S : Atoms) → list_any (same_set S) A ≡ is_answer t S
Result goal.Opt t A best = MatchOption best ((S : Atoms) → is_answer t S ≡ false) (IsOptimum t)
Result (goal.Consequences r n) t A best = consequences_of r t.program (showing_by n r t.program A) ≡ consequences_of r t.program (showing_by n r t.program (answers_of t))
Result (goal.Ties c) t A best = (S : Atoms) → list_any (same_set S) A ≡ (is_answer t S && lists_by (goal.Ties c) t.program S)

result-by : (m : Goal) (t : Task) (A : List Atoms) (best : Option Atoms) →
    AllByRecursion (λ S. IsTrue (lists_by m t.program S) × IsTrue (is_answer t S)) A → IfSome best (λ S. IsTrue (optimises m) × IsTrue (is_answer t S)) →
    ((S : Atoms) → is_answer t S ≡ true → is_done t.program (used_up (sought m) t.program (showing m t.program A)) (bound_by m t.program best) S ≡ true) →
    Result m t A best
result-by goal.Enum t A best delivered kept excused =
    λ S. same_bools (list_any (same_set S) A) (is_answer t S) (λ h. (and_parts (is_answer t S) true (delivered_all goal.Enum t A S delivered h)).0)
    (λ h. or-false (list_any (same_set S) A) (excused S h))
result-by goal.Opt t A None delivered kept excused = λ S.
    false_from_ne_true (is_answer t S) (λ h. false≢true (sym (ap (λ (K : List Atoms). list_any (same_set S) K || false) (none_listed t A delivered)) ∙ excused S h))
result-by goal.Opt t A (Some B) delivered kept excused = (
  kept.1,
  λ T h. not_true (betters (cost t.program T) (cost t.program B))
      (sym (ap (λ (K : List Atoms). list_any (same_set T) K || costs t.program (cost t.program B) T) (none_listed t A delivered)) ∙ excused T h),
)
result-by (goal.Ties c) t A best delivered kept excused = λ S.
    same_bools (list_any (same_set S) A) (is_answer t S && lists_by (goal.Ties c) t.program S) (delivered_all (goal.Ties c) t A S delivered)
    (λ h. let parts = and_parts (is_answer t S) (lists_by (goal.Ties c) t.program S) h in or_else (list_any (same_set S) A) (costs_bound t.program c S) (excused S parts.0) parts.1)
result-by (goal.Consequences r n) t A best delivered kept excused =
    showing_by-covered n r t.program A (answers_of t)
    (λ S h. listed-answers t S ∙ (and_parts (is_answer t S) true (delivered_all (goal.Consequences r n) t A S delivered h)).0)
    (λ S h. used-covered r t.program (showing_by n r t.program A) S
    (or-false (list_any (same_set S) (used_up (Some r) t.program (showing_by n r t.program A))) (excused S (sym (listed-answers t S) ∙ h))))

and-true : (a : Bool) → a ≡ (a && true)
and-true true = refl
and-true false = refl

filter-all : (L : List Atoms) → filter (λ S. true) L ≡ L
filter-all [] = refl
filter-all (S ∷ L) = ap (λ (X : List Atoms). S ∷ X) (filter-all L)

result-is : (m : Goal) (b : Board) → m ≡ b.task.goal → Result m b.task b.answers b.best → HasResult m b
result-is goal.Enum b q h = sorted-answers b.task (λ S. true) b.answers (λ S. h S ∙ and-true (is_answer b.task S)) ∙ filter-all (answers_of b.task)
result-is goal.Opt b q h = h
result-is (goal.Consequences r n) b q h = h
result-is (goal.Ties c) b q h = sorted-answers b.task (lists b.task) b.answers (λ S. h S ∙ ap (λ m. is_answer b.task S && lists_by m b.task.program S) q)

pub HasResult-board : (b : Board) → IsBoard b → all_closed b.nodes ≡ true → HasResult b.task.goal b
HasResult-board b is closed = result-is b.task.goal b refl (result-by b.task.goal b.task b.answers b.best is.delivered is.best (answers-excused b is closed))

pub HasResult-finished : (t : Task) (journal : List Event) → IsQuery t.program t.query → IsLawful (start t) journal → all_closed (replay t journal).nodes ≡ true → HasResult t.goal (replay t journal)
HasResult-finished t journal query lawful closed =
    let b : Board = replay t journal in
    let By : Task → Type 0 = λ x. HasResult x.goal b in
    subst By (task-run (start t) journal) (HasResult-board b (IsBoard-replay t journal query lawful) closed)

-- ---- what an optimisation doesn't excuse
none-by : (m : Goal) (t : Task) (A : List Atoms) (S : Atoms) → optimises m ≡ true →
    AllByRecursion (λ T. IsTrue (lists_by m t.program T) × IsTrue (is_answer t T)) A →
    is_done t.program (used_up (sought m) t.program (showing m t.program A)) (bound_by m t.program None) S ≡ false
none-by goal.Enum t A S o delivered = absurd (false≢true o)
none-by (goal.Ties c) t A S o delivered = absurd (false≢true o)
none-by (goal.Consequences r n) t A S o delivered = absurd (false≢true o)
none-by goal.Opt t A S o delivered = ap (λ (K : List Atoms). list_any (same_set S) K || false) (none_listed t A delivered)

better-by : (m : Goal) (t : Task) (A : List Atoms) (B S : Atoms) → optimises m ≡ true →
    AllByRecursion (λ T. IsTrue (lists_by m t.program T) × IsTrue (is_answer t T)) A → betters (cost t.program S) (cost t.program B) ≡ true
    → is_done t.program (used_up (sought m) t.program (showing m t.program A)) (bound_by m t.program (Some B)) S ≡ false
better-by goal.Enum t A B S o delivered h = absurd (false≢true o)
better-by (goal.Ties c) t A B S o delivered h = absurd (false≢true o)
better-by (goal.Consequences r n) t A B S o delivered h = absurd (false≢true o)
better-by goal.Opt t A B S o delivered h = ap (λ (K : List Atoms). list_any (same_set S) K || costs t.program (cost t.program B) S) (none_listed t A delivered) ∙ ap not h

pub unexcused-none : (b : Board) (S : Atoms) → IsBoard b → optimises b.task.goal ≡ true → b.best ≡ None → is_excused b S ≡ false
unexcused-none b S is o none = ap (λ (B : Option Atoms). is_done b.task.program (used b) (bound_by b.task.goal b.task.program B) S) none ∙ none-by b.task.goal b.task b.answers S o is.delivered

pub unexcused-better : (b : Board) (B S : Atoms) → IsBoard b → optimises b.task.goal ≡ true → b.best ≡ Some B → betters (cost b.task.program S) (cost b.task.program B) ≡ true → is_excused b S ≡ false
unexcused-better b B S is o some h =
    ap (λ (C : Option Atoms). is_done b.task.program (used b) (bound_by b.task.goal b.task.program C) S) some
    ∙ better-by b.task.goal b.task b.answers B S o is.delivered h
