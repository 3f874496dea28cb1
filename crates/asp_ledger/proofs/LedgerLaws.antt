-- A ledger after one event more, and what holds of a ledger's board.
use Rattle.std.proofs.Common.{◌≡◌, ℕ, ◌+◌, ◌<◌, ◌≤◌, eqb, true, false, not, ◌&&◌, List, [], ◌∷◌, ◌++◌, length, None, refl, sym, ap, ◌∙◌, subst}
use Rattle.std.proofs.lemmas.Bool.{false≢true}
use Rattle.std.specs.Prelude.{nat_le}
use Rattle.asp_model.specs.declared.program.Program.{Program}
use Rattle.asp_model.specs.Sets.{Atoms}
use Rattle.asp_vars.specs.Conflicts.{has_all}
use Rattle.asp_vars.specs.Entailment.{HitsOnly}
use Rattle.asp_vars.specs.Literals.{Literal}
use Rattle.asp_path.specs.declared.status.Status.{Status}
use Rattle.asp_path.specs.declared.status.Status.TheVariants as status
use Rattle.asp_path.specs.Trees.{Node, cube_of, is_open, split, status_of, with_status}
use Rattle.asp_core.specs.declared.event.Event.{Event}
use Rattle.asp_core.specs.declared.event.Event.TheVariants as event
use Rattle.asp_core.specs.declared.goal.Goal.{Goal}
use Rattle.asp_core.specs.declared.task.Task.{Task}
use Rattle.asp_core.specs.Boards.{Board, IsQuery, distinct, is_answer, is_enough, is_excused, lists, optimises, sought, start}
use Rattle.asp_core.specs.Events.{Guard, IsVariable, happens, has_var, held_by}
use Rattle.asp_core.specs.Units.{out_of}
use Rattle.asp_core.specs.Invariant.{IsBoard}
use Rattle.asp_core.proofs.HeldLaws.{IsLawful-push, run-push}
use Rattle.asp_core.proofs.ResultLaws.{IsBoard-replay, task-run}
use Rattle.asp_book.specs.Books.{Booked, board, IsJournalOf}
use Rattle.asp_ledger.specs.declared.ledger.Ledger.TheInside.{Inside}
use Rattle.asp_ledger.specs.Ledgers.{IsListing, ListsAnswers, listing}
use Rattle.asp_ledger.specs.Stored.{IsLedger, ledger_of}

-- ---- what holds of the board of a search that lists answers
module _ (v : Booked) (task : IsListing v.task) where
  pub board-same : (board v).task ≡ v.task
  board-same = task-run (start v.task) v.journal

  pub board-listing : (board v).task ≡ listing v.task.program v.task.goal v.task.budget
  board-listing = board-same ∙ task.is

  pub no-limit : is_enough (board v) ≡ false
  no-limit = ap (λ (t : Task). not (eqb t.limit 0) && nat_le t.limit (length (distinct (board v).answers))) board-listing

  pub nothing-sought : sought (board v).task.goal ≡ None
  nothing-sought = ap (λ (t : Task). sought t.goal) board-same ∙ task.answers.apart

  pub no-optimum : optimises (board v).task.goal ≡ false
  no-optimum = ap (λ (t : Task). optimises t.goal) board-same ∙ task.answers.plain

  pub no-query : IsQuery v.task.program v.task.query
  no-query = subst (λ (t : Task). IsQuery t.program t.query) (sym task.is) tt

  pub board-is : IsJournalOf v.task v.journal → IsBoard (board v)
  board-is lawful = IsBoard-replay v.task v.journal no-query lawful

-- by another word for the task
pub listing-same : (t u : Task) → u ≡ t → IsListing t → IsListing u
listing-same t u same is = subst IsListing (sym same) is

pub listing-lists : (p : Program) (g : Goal) (budget : ℕ) → ListsAnswers g → IsListing (listing p g budget)
listing-lists p g budget is = record { answers = is; is = refl }

-- ---- one event more
-- from i to j by an event
pub ledger-happens : (i j : Inside) (e : Event) → IsLedger i → j.program ≡ i.program → j.goal ≡ i.goal → j.budget ≡ i.budget → Guard (board (ledger_of i)) e →
    j.tree ≡ (happens (board (ledger_of i)) e).nodes → j.journal.items ≡ i.journal.items ++ e ∷ [] → IsLedger j
ledger-happens i j e is program goal budget guard tree events =
    let t : Task = listing i.program.value i.goal.value i.budget in
    let same : listing j.program.value j.goal.value j.budget ≡ t = λ k. listing (program k).value (goal k).value (budget k) in
    record {
      answers = subst ListsAnswers (λ k. (sym goal k).value) is.answers;
      tree = tree ∙ ap (λ (b : Board). b.nodes) (sym (run-push (start t) i.journal.items e))
          ∙ ap (λ (l : List Event). (board (record { task = t; journal = l })).nodes) (sym events)
          ∙ ap (λ (u : Task). (board (record { task = u; journal = j.journal.items })).nodes) (sym same);
      lawful = subst (λ (u : Task). IsJournalOf u j.journal.items) (sym same) (subst (IsJournalOf t) (sym events) (IsLawful-push (start t) i.journal.items e is.lawful guard));
    }

-- ---- each event
open-is : (s : Status) → is_open s ≡ true → s ≡ status.Open
open-is status.Open e = refl
open-is (status.Held t) e = absurd (false≢true e)
open-is status.Closed e = absurd (false≢true e)
open-is status.Forked e = absurd (false≢true e)

-- what holds of its value
pub listing-of : (i : Inside) (v : Booked) → ledger_of i ≡ v → IsLedger i → IsListing v.task
listing-of i v view is =
    subst (λ (u : Booked). IsListing u.task) view (listing-lists i.program.value i.goal.value i.budget is.answers)

module _ (i j : Inside) (v : Booked) (view : ledger_of i ≡ v) (is : IsLedger i) (program : j.program ≡ i.program) (goal : j.goal ≡ i.goal) (budget : j.budget ≡ i.budget) where
  here-tree : i.tree ≡ (board v).nodes
  here-tree = is.tree ∙ ap (λ (u : Booked). (board u).nodes) view

  here-task : IsListing v.task
  here-task = listing-of i v view is

  by-event : (e : Event) → Guard (board v) e → j.tree ≡ (happens (board v) e).nodes → (x : Event) → j.journal.items ≡ i.journal.items ++ x ∷ [] → x ≡ e → IsLedger j
  by-event e guard tree x pushed same =
      ledger-happens i j e is program goal budget (subst (λ (u : Booked). Guard (board u) e) (sym view) guard)
      (tree ∙ ap (λ (u : Booked). (happens (board u) e).nodes) (sym view)) (pushed ∙ ap (λ (y : Event). i.journal.items ++ y ∷ []) same)

  pub ledger-took : (leaf : ℕ) → is_open (status_of i.tree leaf) ≡ true → held_by 0 (board v).nodes ≡ 0 → j.tree ≡ with_status i.tree leaf (status.Held 0) →
      (x : Event) → j.journal.items ≡ i.journal.items ++ x ∷ [] → x ≡ event.Take 0 leaf → IsLedger j
  ledger-took leaf opened free tree x pushed same =
      by-event (event.Take 0 leaf) (open-is (status_of (board v).nodes leaf) (ap (λ (ns : List Node). is_open (status_of ns leaf)) (sym here-tree) ∙ opened), free)
      (tree ∙ ap (λ (ns : List Node). with_status ns leaf (status.Held 0)) here-tree) x pushed same

  pub ledger-split : (leaf : ℕ) (l : Literal) → status_of (board v).nodes leaf ≡ status.Held 0 → IsVariable (board v).task.program l.var → has_var (cube_of (board v).nodes leaf) l.var ≡ false →
      length i.tree < 4194304 → j.tree ≡ split i.tree leaf l → (x : Event) → j.journal.items ≡ i.journal.items ++ x ∷ [] → x ≡ event.Split 0 leaf l → IsLedger j
  ledger-split leaf l held variable new room tree x pushed same =
      by-event (event.Split 0 leaf l) (held, subst (λ (ns : List Node). length ns < 4194304) here-tree room, variable, new)
      (tree ∙ ap (λ (ns : List Node). split ns leaf l) here-tree) x pushed same

  pub ledger-delivered : (S : Atoms) → is_answer v.task S ≡ true → lists v.task S ≡ true → j.tree ≡ i.tree →
      (x : Event) → j.journal.items ≡ i.journal.items ++ x ∷ [] → x ≡ event.Deliver 0 S → IsLedger j
  ledger-delivered S answer listed tree x pushed same =
      by-event (event.Deliver 0 S) (
        ap (λ (t : Task). lists t S) (board-same v here-task) ∙ listed,
        ap (λ (t : Task). is_answer t S) (board-same v here-task) ∙ answer,
        no-limit v here-task,
      ) (tree ∙ here-tree) x pushed same

  pub ledger-closed : (leaf : ℕ) (n : List Literal) → status_of (board v).nodes leaf ≡ status.Held 0 → has_all (cube_of (board v).nodes leaf) n ≡ true →
      HitsOnly (board v).task.program (is_excused (board v)) n → j.tree ≡ with_status i.tree leaf status.Closed →
      (x : Event) → j.journal.items ≡ i.journal.items ++ x ∷ [] → x ≡ event.Close 0 leaf n → IsLedger j
  ledger-closed leaf n held within settled tree x pushed same =
      by-event (event.Close 0 leaf n) (held, within, settled) (tree ∙ ap (λ (ns : List Node). with_status ns leaf status.Closed) here-tree) x pushed same

  pub ledger-released : (leaf : ℕ) → status_of (board v).nodes leaf ≡ status.Held 0 → j.tree ≡ with_status i.tree leaf status.Open →
      (x : Event) → j.journal.items ≡ i.journal.items ++ x ∷ [] → x ≡ event.Release 0 leaf → IsLedger j
  ledger-released leaf held tree x pushed same =
      by-event (event.Release 0 leaf) held (tree ∙ ap (λ (ns : List Node). with_status ns leaf status.Open) here-tree) x pushed same

  pub ledger-leased : (n : ℕ) → n ≤ (board v).pool → j.tree ≡ i.tree → (x : Event) → j.journal.items ≡ i.journal.items ++ x ∷ [] → x ≡ event.Lease 0 n → IsLedger j
  ledger-leased n fits tree x pushed same = by-event (event.Lease 0 n) fits (tree ∙ here-tree) x pushed same

  pub ledger-back : (left burnt : ℕ) → left + burnt ≡ out_of (board v).out 0 → j.tree ≡ i.tree →
      (x : Event) → j.journal.items ≡ i.journal.items ++ x ∷ [] → x ≡ event.Back 0 left burnt → IsLedger j
  ledger-back left burnt all tree x pushed same = by-event (event.Back 0 left burnt) all (tree ∙ here-tree) x pushed same
