-- What a lawful journal says after which every leaf is closed.
use Rattle.std.proofs.Common.{◌≡◌, ℕ, Bool, true, false, ◌||◌, List, [], ◌∷◌, filter, get_or, Option, Some, None, refl, sym, ap, ◌∙◌, subst}
use Rattle.std.specs.Prelude.{IsTrue, MatchOption, option_map, ℤ}
use Rattle.std.specs.List.{list_any, AllByRecursion}
use Rattle.std.specs.List.Sorted.{IsPermutation, IsSorted}
use Rattle.std.specs.List.Retain.{IsFiltered, DiffersFromLast}
use Rattle.std.proofs.lemmas.Bool.{false≢true}
use Rattle.std.specs.Option.{IfSome}
use Rattle.std.proofs.lemmas.List.{append-nil}
use Rattle.std.proofs.lemmas.List.Elements.{Contains-get_or}
use Rattle.std.proofs.lemmas.List.Folds.{list_any_none}
use Rattle.asp_model.specs.declared.program.Program.{Program}
use Rattle.asp_model.specs.declared.results.Ask.{Ask}
use Rattle.asp_model.specs.declared.results.Mode.{Mode}
use Rattle.asp_model.specs.declared.results.Mode.TheVariants.{Enum, Opt, Consequences}
use Rattle.asp_model.specs.Asked.{reasoning_of}
use Rattle.asp_model.specs.Consequences.{consequences_of}
use Rattle.asp_model.specs.Sets.{Atoms, same_set, set_cmp}
use Rattle.asp_model.specs.Holding.{all_hold}
use Rattle.asp_model.specs.Models.{models, answers}
use Rattle.asp_model.specs.Costs.{cost, betters}
use Rattle.asp_model.proofs.ListedLaws.{contains_from_test, test_from_contains}
use Rattle.asp_core.specs.declared.event.Event.{Event}
use Rattle.asp_core.specs.declared.goal.Goal.TheVariants as goal
use Rattle.asp_core.specs.declared.task.Task.{Task}
use Rattle.asp_core.specs.Boards.{Board, common_by, goal_of, listed_by, showing, showing_by, start, lists, lists_by, optimises, is_answer}
use Rattle.asp_core.specs.Events.{IsLawful, replay}
use Rattle.asp_core.specs.Invariant.{IsOptimum}
use Rattle.asp_core.specs.Sorting.{sorted_once, answers_of}
use Rattle.asp_core.proofs.SortingLaws.{same_itself, has-answers_of, once-is}
use Rattle.asp_core.proofs.ResultLaws.{HasResult-finished, IsBoard-replay, task-run}
use Rattle.asp_path.specs.Trees.{all_closed}
use Rattle.asp_crew_laws.specs.Runs.{asks, task_of, IsBest, IsFound, with_cost}

-- ---- the result
pub answers-same : (p : Program) (ask : Ask) (budget : ℕ) → answers_of (task_of p ask budget) ≡ answers p
answers-same p ask budget = ap (λ (ls : List ℤ). filter (λ S. all_hold S ls) (models p)) (append-nil p.assumptions)

-- what the answers of an optimisation's board are
pub none-listed : (t : Task) (A : List Atoms) → t.goal ≡ goal.Opt → AllByRecursion (λ S. IsTrue (lists t S) × IsTrue (is_answer t S)) A → A ≡ []
none-listed t [] q h = refl
none-listed t (S ∷ A) q h = absurd (false≢true (ap (λ m. lists_by m t.program S) (sym q) ∙ h.0.0))

pub none-kept : (t : Task) (best : Option Atoms) → t.goal ≡ goal.Enum → IfSome best (λ S. IsTrue (optimises t.goal) × IsTrue (is_answer t S)) → best ≡ None
none-kept t None q h = refl
none-kept t (Some S) q h = absurd (false≢true (ap optimises (sym q) ∙ h.0))

-- no answer in the list passes a test that no answer passes
none-of : (p : Program) (ask : Ask) (budget : ℕ) → ((S : Atoms) → is_answer (task_of p ask budget) S ≡ false) → answers p ≡ []
none-of p ask budget none = sym (answers-same p ask budget) ∙ empty (answers_of (task_of p ask budget)) (λ S. has-answers_of (task_of p ask budget) S ∙ none S)
  where
    empty : (L : List Atoms) → ((S : Atoms) → list_any (same_set S) L ≡ false) → L ≡ []
    empty [] h = refl
    empty (S ∷ L) h = absurd (false≢true (sym (h S) ∙ ap (λ x. x || list_any (same_set S) L) (same_itself S)))

best-by : (p : Program) (n budget : ℕ) (best : Option Atoms) →
    MatchOption best ((S : Atoms) → is_answer (task_of p (asks Opt n false) budget) S ≡ false) (IsOptimum (task_of p (asks Opt n false) budget)) →
    IsBest p (option_map (with_cost p) best)
best-by p n budget None h = none-of p (asks Opt n false) budget h
best-by p n budget (Some S) h = record {
  answer = contains_from_test (answers p) S (ap (λ (L : List Atoms). list_any (same_set S) L) (sym (answers-same p (asks Opt n false) budget))
      ∙ has-answers_of (task_of p (asks Opt n false) budget) S ∙ h.0);
  sums = refl;
  least = list_any_none (λ (T : Atoms). betters (cost p T) (cost p S)) (answers p) (λ k d within.
      let T : Atoms = get_or (answers p) k d in
      h.1 T (sym (has-answers_of (task_of p (asks Opt n false) budget) T)
      ∙ ap (λ (L : List Atoms). list_any (same_set T) L) (answers-same p (asks Opt n false) budget)
      ∙ test_from_contains (answers p) T (Contains-get_or (answers p) k d within)));
}

pub sorted-nil : (A : List Atoms) → A ≡ [] → sorted_once A ≡ []
sorted-nil A e = ap sorted_once e

-- No best stands where none is sought.
pub none-best : (t : Task) (best : Option Atoms) → optimises t.goal ≡ false → IfSome best (λ S. IsTrue (optimises t.goal) × IsTrue (is_answer t S)) → best ≡ None
none-best t None q h = refl
none-best t (Some S) q h = absurd (false≢true (sym q ∙ h.0))

module _ (p : Program) (n budget : ℕ) (named : Bool) (journal : List Event) (L : List Atoms) where
  found-by : (mode : Mode) → IsLawful (start (task_of p (asks mode n named) budget)) journal → all_closed (replay (task_of p (asks mode n named) budget) journal).nodes ≡ true →
      L ≡ sorted_once (listed_by (reasoning_of mode) (replay (task_of p (asks mode n named) budget) journal).answers) →
      IsFound named p mode L (option_map (with_cost p) (replay (task_of p (asks mode n named) budget) journal).best)
      (common_by (reasoning_of mode) p (showing (goal_of mode named) p (replay (task_of p (asks mode n named) budget) journal).answers))
  found-by Enum lawful closed sorted =
      let t : Task = task_of p (asks Enum n named) budget in
      let b : Board = replay t journal in
      let is = IsBoard-replay t journal tt lawful in
      let task : b.task ≡ t = task-run (start t) journal in (
        sorted ∙ HasResult-finished t journal tt lawful closed ∙ ap answers_of task ∙ answers-same p (asks Enum n named) budget,
        ap (option_map (with_cost p)) (none-kept b.task b.best (ap (λ (x : Task). x.goal) task) is.best),
      )
  found-by Opt lawful closed sorted =
      let t : Task = task_of p (asks Opt n named) budget in
      let b : Board = replay t journal in
      let is = IsBoard-replay t journal tt lawful in
      let task : b.task ≡ t = task-run (start t) journal in (
        sorted ∙ sorted-nil b.answers (none-listed b.task b.answers (ap (λ (x : Task). x.goal) task) is.delivered),
        best-by p n budget b.best (subst (λ (x : Task). MatchOption b.best ((S : Atoms) → is_answer x S ≡ false) (IsOptimum x)) task (HasResult-finished t journal tt lawful closed)),
      )
  found-by (Consequences r) lawful closed sorted =
      let t : Task = task_of p (asks (Consequences r) n named) budget in
      let b : Board = replay t journal in
      let is = IsBoard-replay t journal tt lawful in
      let task : b.task ≡ t = task-run (start t) journal in (
        sorted,
        ap (option_map (with_cost p)) (none-best b.task b.best (ap (λ (x : Task). optimises x.goal) task) is.best),
        ap (λ (x : Task). consequences_of r x.program (showing_by named r x.program b.answers)) (sym task) ∙ HasResult-finished t journal tt lawful closed
            ∙ ap (λ (x : Task). consequences_of r x.program (showing_by named r x.program (answers_of x))) task
            ∙ ap (λ (L : List Atoms). consequences_of r p (showing_by named r p L)) (answers-same p (asks (Consequences r) n named) budget),
      )

pub found-once : (p : Program) (ask : Ask) (budget : ℕ) (journal : List Event) (L : List Atoms) → IsLawful (start (task_of p ask budget)) journal →
    all_closed (replay (task_of p ask budget) journal).nodes ≡ true →
    L ≡ sorted_once (listed_by (reasoning_of ask.mode) (replay (task_of p ask budget) journal).answers) →
    IsFound ask.by_name p ask.mode L (option_map (with_cost p) (replay (task_of p ask budget) journal).best)
    (common_by (reasoning_of ask.mode) p (showing (goal_of ask.mode ask.by_name) p (replay (task_of p ask budget) journal).answers))
found-once p ask budget journal L = found-by p ask.models budget ask.by_name journal L ask.mode

pub found : (p : Program) (ask : Ask) (budget : ℕ) (journal : List Event) (M L : List Atoms) → IsLawful (start (task_of p ask budget)) journal →
    all_closed (replay (task_of p ask budget) journal).nodes ≡ true →
    IsPermutation (listed_by (reasoning_of ask.mode) (replay (task_of p ask budget) journal).answers) M → IsSorted set_cmp M → IsFiltered (DiffersFromLast same_set) [] M L →
    IsFound ask.by_name p ask.mode L (option_map (with_cost p) (replay (task_of p ask budget) journal).best)
    (common_by (reasoning_of ask.mode) p (showing (goal_of ask.mode ask.by_name) p (replay (task_of p ask budget) journal).answers))
found p ask budget journal M L lawful closed moved sorted kept =
    found-once p ask budget journal L lawful closed
    (once-is (listed_by (reasoning_of ask.mode) (replay (task_of p ask budget) journal).answers) M L moved sorted kept)
