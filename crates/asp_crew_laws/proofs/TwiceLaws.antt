-- Two searches, one for a best answer and one for all that are as good, find all optima.
use Rattle.std.proofs.Common.{◌≡◌, ℕ, Bool, true, false, not, cond, ◌&&◌, ◌||◌, List, [], ◌∷◌, length, filter, Option, Some, None, refl, sym, ap, ◌∙◌, subst, arith}
use Rattle.std.specs.Prelude.{ℤ, IfSome, IsTrue, option_map}
use Rattle.std.specs.List.{list_any, AllByRecursion}
use Rattle.std.specs.Option.{is_some}
use Rattle.std.specs.Cmp.Lexicographic.{same_text}
use Rattle.std.proofs.lemmas.Bool.{false≢true}
use Rattle.asp_model.specs.declared.program.Program.{Program}
use Rattle.asp_model.specs.declared.results.Ask.{Ask}
use Rattle.asp_model.specs.declared.results.Mode.TheVariants.{Opt}
use Rattle.asp_model.specs.declared.results.End.{End}
use Rattle.asp_model.specs.declared.results.End.TheVariants.{Finished, Limited, Unfinished}
use Rattle.asp_model.specs.Sets.{Atoms, same_set}
use Rattle.asp_model.specs.Models.{answers}
use Rattle.asp_model.specs.Costs.{betters, just_above, optima, IsOptimum}
use Rattle.asp_vars.specs.Paid.{IsAtLeast, least_of}
use Rattle.asp_path.specs.Trees.{all_closed}
use Rattle.asp_core.specs.declared.event.Event.{Event}
use Rattle.asp_core.specs.declared.goal.Goal.TheVariants as goal
use Rattle.asp_core.specs.declared.task.Task.{Task}
use Rattle.asp_core.specs.Boards.{Board, IsBoundBy, is_answer, is_enough, listed_by, lists, sought}
use Rattle.asp_core.specs.Invariant.{IsBoard}
use Rattle.asp_core.specs.Sorting.{answers_of, sorted_once}
use Rattle.asp_core.proofs.ResultLaws.{HasResult-finished}
use Rattle.asp_core.proofs.SortingLaws.{sorted-answers}
use Rattle.asp_book.specs.Books.{IsJournalOf}
use Rattle.asp_crew_laws.specs.declared.report.Report.{Report}
use Rattle.asp_crew_laws.specs.Runs.{asks, ties_of, IsBest, IsFound}
use Rattle.asp_crew_laws.specs.Reports.{board_by, joined, IsPlayed, IsPlayedBy, IsPriced, IsReport, IsToldBy, Says}
use Rattle.asp_crew_laws.proofs.FoundLaws.{answers-same}
use Rattle.asp_crew_laws.proofs.PlayedLaws.{at-limit, closed-by, is-board, listed-answers, paid-known, task-is, told-bounds, told-budget, told-left, told-played}
use Rattle.asp_crew_laws.proofs.TieLaws.{not-above, ties-optima}

abbrev all_of : ℕ → Bool → Ask
all_of n named = record { mode = Opt; models = n; all_optima = true; by_name = named }

-- the second search's task
abbrev ties_task : Program → ℕ → Report → List ℤ → Task
ties_task p n first c = ties_of p (asks Opt n false) c first.paid.left

-- ---- some of the answers that pass
filter-both : (f g : Atoms → Bool) (L : List Atoms) → filter (λ S. f S && g S) L ≡ filter g (filter f L)
filter-both f g [] = refl
filter-both f g (S ∷ L) = here (f S) (filter-both f g L)
  where
    here : (x : Bool) → filter (λ S. f S && g S) L ≡ filter g (filter f L) →
        cond (x && g S) (S ∷ filter (λ S. f S && g S) L) (filter (λ S. f S && g S) L) ≡ filter g (cond x (S ∷ filter f L) (filter f L))
    here true e = ap (λ (K : List Atoms). cond (g S) (S ∷ K) K) e
    here false e = e

all-three : (x l y : Bool) → (y ≡ true → x ≡ true) → (y ≡ true → l ≡ true) → y ≡ (x && (l && y))
all-three x l true f g = sym (ap (λ z. z && (l && true)) (f refl) ∙ ap (λ z. z && true) (g refl))
all-three true true false f g = refl
all-three true false false f g = refl
all-three false l false f g = refl

listed-lists : (t : Task) (A : List Atoms) (S : Atoms) → AllByRecursion (λ T. IsTrue (lists t T) × IsTrue (is_answer t T)) A → list_any (same_set S) A ≡ true → lists t S ≡ true
listed-lists t [] S h e = absurd (false≢true e)
listed-lists t (T ∷ A) S h e = here (same_set S T) refl e (listed-lists t A S h.1)
  where
    here : (x : Bool) → x ≡ same_set S T → (x || list_any (same_set S) A) ≡ true → (list_any (same_set S) A ≡ true → lists t S ≡ true) → lists t S ≡ true
    here true q e rest = ap (lists t) (same_text S T q) ∙ h.0.0
    here false q e rest = rest e

-- ---- bounds
at_least-both : (l a b : Option (List ℤ)) → IsAtLeast l a → IsAtLeast l b → IsAtLeast l (least_of a b)
at_least-both l None b h k = k
at_least-both l (Some c) None h k = h
at_least-both l (Some c) (Some d) h k = here (betters d c)
  where
    here : (x : Bool) → IsAtLeast l (Some (cond x d c))
    here true = k
    here false = h

ties-at_least : (p : Program) (c : List ℤ) (best : Option Atoms) (o : Option (List ℤ)) → IfSome o (IsBoundBy (goal.Ties (just_above c)) p best) → IsAtLeast (Some c) o
ties-at_least p c best None h = tt
ties-at_least p c best (Some d) h = ap not (not-above c d h)

both-unreasoned : (x y : Bool) → (x ≡ true → false ≡ true) → (y ≡ true → false ≡ true) → (x || y) ≡ true → false ≡ true
both-unreasoned true y f g e = f refl
both-unreasoned false y f g e = g e

-- ---- the report of both
module _ (p : Program) (n units : ℕ) (named : Bool) (first ties : Report) (S : Atoms) (c : List ℤ) (is : IsReport p (asks Opt n named) units first)
    (alone : first.second ≡ None) (finished : first.results.end ≡ Finished)
    (found : first.results.best ≡ Some (S, c)) (lawful : IsJournalOf (ties_task p n first c) ties.journal) (told : IsToldBy (board_by (ties_task p n first c) ties) ties) where
  first-found : IsFound named p Opt first.results.answers first.results.best first.results.known
  first-found = subst (Says p (asks Opt n named) first) finished is.says

  optimum : IsOptimum p S c
  optimum = subst (IsBest p) found first-found.1

  again : IsPlayed (ties_task p n first c) ties
  again = told-played (ties_task p n first c) ties tt lawful told

  board : IsBoard (board_by (ties_task p n first c) ties)
  board = is-board (ties_task p n first c) ties tt lawful told

  task : (board_by (ties_task p n first c) ties).task ≡ ties_task p n first c
  task = task-is (ties_task p n first c) ties tt lawful told

  listed : ties.results.answers ≡ sorted_once (board_by (ties_task p n first c) ties).answers
  listed = told.answers ∙ ap (λ (x : Task). sorted_once (listed_by (sought x.goal) (board_by (ties_task p n first c) ties).answers)) task

  -- those that the second search lists
  are-optima : filter (lists (ties_task p n first c)) (answers_of (ties_task p n first c)) ≡ optima p
  are-optima = ap (filter (lists (ties_task p n first c))) (answers-same p (asks Opt n named) units) ∙ ties-optima p S c optimum

  all-listed : ties.results.end ≡ Finished → ties.results.answers ≡ optima p
  all-listed q =
      let b : Board = board_by (ties_task p n first c) ties in
      listed ∙ HasResult-finished (ties_task p n first c) ties.journal tt lawful (closed-by (is_enough b) (all_closed b.nodes) (sym told.end ∙ q))
      ∙ ap (λ (x : Task). filter (lists x) (answers_of x)) task ∙ are-optima

  some-listed : (chosen : Atoms → Bool) × (ties.results.answers ≡ filter chosen (optima p))
  some-listed =
      let t : Task = ties_task p n first c in
      let b : Board = board_by (ties_task p n first c) ties in
      let q : Atoms → Bool = λ R. list_any (same_set R) b.answers in
      let delivered : AllByRecursion (λ T. IsTrue (lists (ties_task p n first c) T) × IsTrue (is_answer (ties_task p n first c) T)) b.answers =
      subst (λ (x : Task). AllByRecursion (λ T. IsTrue (lists x T) × IsTrue (is_answer x T)) b.answers) task board.delivered in (
        q,
        listed
            ∙ sorted-answers t (λ R. lists t R && q R) b.answers
            (λ R. all-three (is_answer t R) (lists t R) (q R) (λ h. listed-answers t b.answers R delivered h)
            (λ h. listed-lists t b.answers R delivered h))
            ∙ filter-both (lists t) q (answers_of t) ∙ ap (filter q) are-optima,
      )

  priced : IfSome first.results.best (IsPriced p)
  priced = subst (λ (o : Option (Atoms × List ℤ)). IfSome o (IsPriced p)) (sym found) (optimum.answer, optimum.sums)

  ties-say : (e : End) → ties.results.end ≡ e → Says p (all_of n named) (joined first ties) e
  ties-say Finished q = (all-listed q, first-found.1)
  ties-say Limited q =
      let at = at-limit (ties_task p n first c) ties again board task refl q in
      record { listing = refl; some = at.0; count = at.1; part = (some-listed, priced); best = first-found.1 }
  ties-say Unfinished q = ((some-listed, priced), told-left (ties_task p n first c) ties tt lawful told q)

  bounds : IsAtLeast (option_map (λ y. y.1) first.results.best) ties.paid.least
  bounds =
      let b : Board = board_by (ties_task p n first c) ties in
      subst (λ (o : Option (Atoms × List ℤ)). IsAtLeast (option_map (λ y. y.1) o) ties.paid.least) (sym found)
      (ties-at_least p c b.best ties.paid.least (told-bounds (ties_task p n first c) ties tt lawful told))

  pub ties-report : IsReport p (all_of n named) units (joined first ties)
  ties-report = record {
    mode_is = is.mode_is;
    says = ties-say ties.results.end refl;
    program = is.program;
    spent = omega (arith, is.spent, told.paid.burnt, told.spent);
    budget = omega (arith, is.budget, told-budget (ties_task p n first c) ties tt lawful told);
    reasoned = both-unreasoned first.paid.reasoned ties.paid.reasoned is.reasoned (λ h. sym (ap (λ (x : Task). is_some (sought x.goal)) task) ∙ told.paid.fits.reasoned h);
    known = omega (arith, is.known, ap length first-found.0, paid-known (ties_task p n first c) ties again);
    untold = is.untold;
    least = at_least-both (option_map (λ y. y.1) first.results.best) first.paid.least ties.paid.least is.least bounds;
    played = record {
      first = first;
      ties = ties;
      best = (S, c);
      both = refl;
      finished = finished;
      found = found;
      played = subst (λ (o : Option (List Event)). IsPlayedBy o p (asks Opt n named) units first) alone is.played;
      again = again;
    };
  }
