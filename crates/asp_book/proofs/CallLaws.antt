-- What a call on a book in a vault tells.
use Rattle.std.proofs.Common.{◌≡◌, ℕ, List, [], ◌∷◌, ◌++◌, length, drop, Option, Some, Result, Ok, Err, refl, sym, ap, ◌∙◌, subst}
use Rattle.std.specs.Prelude.{unwrap_or}
use Rattle.std.specs.Result.{IfOk, OnErr}
use Rattle.std.specs.List.{AllByRecursion}
use Rattle.std.proofs.lemmas.Bool.{false≢true, eq-eqb}
use Rattle.std.proofs.lemmas.List.{append-nil}
use Rattle.asp_vault.specs.Makers.{NoneBy}
use Rattle.asp_vault.specs.Moments.{Stays}
use Rattle.asp_vault.specs.Rules.{holding, after_misses, given_back, Learnt}
use Rattle.asp_vault.proofs.Calls.{moment_of}
use Rattle.asp_vault.proofs.Filters.{drop_prefix}
use Rattle.asp_core.specs.declared.event.Event.{Event}
use Rattle.asp_core.specs.declared.task.Task.{Task}
use Rattle.asp_core.specs.Boards.{Board, start}
use Rattle.asp_core.specs.Events.{happens, maker, run, IsLawful, replay}
use Rattle.asp_core.specs.Growth.{Grows, Spares}
use Rattle.asp_core.proofs.GrowthLaws.{Grows-run, Spares-run}
use Rattle.asp_book.specs.Books.{Booked, board, with_events, signed, IsJournalOf}
use Rattle.asp_book.specs.Calls.{Knows, no_task, task_of, seen_board, IsCall}

pub run-append : (b : Board) (xs ys : List Event) → run b (xs ++ ys) ≡ run (run b xs) ys
run-append b [] ys = refl
run-append b (e ∷ xs) ys = run-append (happens b e) xs ys

pub lawful-rest : (b : Board) (xs ys : List Event) → IsLawful b (xs ++ ys) → IsLawful (run b xs) ys
lawful-rest b [] ys h = h
lawful-rest b (e ∷ xs) ys h = lawful-rest (happens b e) xs ys h.1

pub others-are : (n : ℕ) (events : List Event) → NoneBy signed n events → AllByRecursion (λ e. maker e ≡ n → ⊥) events
others-are n [] h = tt
others-are n (e ∷ events) h = (λ same. absurd (false≢true (sym h.0 ∙ eq-eqb (maker e) n same)), others-are n events h.1)

task-is : (v : Knows) (t : Task) → Some t ≡ v.about → task_of v ≡ t
task-is v t about = ap (λ (o : Option Task). unwrap_or o no_task) (sym about)

-- ---- what the list that was taken says of the board seen before
module _ (v : Knows) (b : Booked) (learnt : Learnt signed v b.journal) (about : Some b.task ≡ v.about) (lawful : IsJournalOf b.task b.journal) where
  since : List Event
  since = learnt.continues.0

  joined : v.seen ++ learnt.continues.0 ≡ b.journal
  joined = learnt.continues.1

  others : NoneBy signed v.number learnt.continues.0
  others = subst (NoneBy signed v.number) (ap (drop (length v.seen)) (sym learnt.continues.1) ∙ drop_prefix v.seen learnt.continues.0) learnt.others

  lawful-since : IsLawful (replay b.task v.seen) learnt.continues.0
  lawful-since = lawful-rest (start b.task) v.seen learnt.continues.0 (subst (IsJournalOf b.task) (sym learnt.continues.1) lawful)

  reached : replay b.task b.journal ≡ run (replay b.task v.seen) learnt.continues.0
  reached = ap (replay b.task) (sym learnt.continues.1) ∙ run-append (start b.task) v.seen learnt.continues.0

  pub spares-since : Spares v.number (seen_board v) (board b)
  spares-since = subst (λ (t : Task). Spares v.number (replay t v.seen) (board b)) (sym (task-is v b.task about))
      (subst (Spares v.number (replay b.task v.seen)) (sym reached) (Spares-run (replay b.task v.seen) learnt.continues.0 v.number lawful-since (others-are v.number learnt.continues.0 others)))

  pub grows-since : Grows (seen_board v) (board b)
  grows-since = subst (λ (t : Task). Grows (replay t v.seen) (board b)) (sym (task-is v b.task about))
      (subst (Grows (replay b.task v.seen)) (sym reached) (Grows-run (replay b.task v.seen) learnt.continues.0 lawful-since))

  pub board-is : replay (task_of v) b.journal ≡ board b
  board-is = ap (λ (t : Task). replay t b.journal) (task-is v b.task about)

  -- the call by which the book became b'
  pub call-of : (u w : Knows) (m : ℕ) (journal added : List Event) → u ≡ holding b.journal (after_misses m v) → w ≡ given_back journal u →
      IsJournalOf b.task journal → journal ≡ b.journal ++ added → IsCall v w b.journal added
  call-of u w m journal added took gave keeps is = record {
    moment = moment_of signed (IsJournalOf (task_of v)) v u w m b.journal added took (gave ∙ ap (λ (l : List Event). given_back l u) is) learnt
        (subst (λ (t : Task). IsJournalOf t (b.journal ++ added)) (sym (task-is v b.task about)) (subst (IsJournalOf b.task) is keeps));
    spared = subst (Spares v.number (seen_board v)) (sym board-is) spares-since;
    grown = subst (Grows (seen_board v)) (sym board-is) grows-since;
  }

-- ---- what the seat has seen after a call
pub task-stays : (v w : Knows) → Stays v w → task_of w ≡ task_of v
task-stays v w stays = ap (λ (o : Option Task). unwrap_or o no_task) stays.about

pub seen-after : (v w : Knows) (before added : List Event) → Stays v w → IsCall v w before added → seen_board w ≡ run (replay (task_of v) before) added
seen-after v w before added stays call =
    ap (λ (t : Task). replay t w.seen) (task-stays v w stays) ∙ ap (replay (task_of v)) call.moment.seen ∙ run-append (start (task_of v)) before added

pub lawful-after : (v w : Knows) (before added : List Event) → Stays v w → IsCall v w before added → IsJournalOf (task_of w) w.seen
lawful-after v w before added stays call =
    subst (λ (t : Task). IsJournalOf t w.seen) (sym (task-stays v w stays)) (subst (IsJournalOf (task_of v)) (sym call.moment.seen) call.moment.keeps)

-- ---- books after a call
pub journal-with : (b : Booked) (events : List Event) → (with_events b events).journal ≡ b.journal ++ events
journal-with b [] = sym (append-nil b.journal)
journal-with b (e ∷ events) = refl

pub task-with : (b : Booked) (events : List Event) → (with_events b events).task ≡ b.task
task-with b [] = refl
task-with b (e ∷ events) = refl

-- what a reply says of the book after the call
abbrev pub Became : {A E : Type 0} → Booked → Booked → (A → List Event) → Result A E → Type 0
Became b c events r = IfOk r (λ x. c ≡ with_events b (events x)) × OnErr r (c ≡ b)

-- the events that the call added
abbrev pub events_by : {A E : Type 0} → (A → List Event) → Result A E → List Event
events_by events (Ok x) = events x
events_by events (Err e) = []

module _ {A E : Type 0} (b c : Booked) (events : A → List Event) where
  became : (r : Result A E) → IfOk r (λ x. c ≡ with_events b (events x)) → OnErr r (c ≡ b) → c ≡ with_events b (events_by events r)
  became (Ok x) ok err = ok
  became (Err e) ok err = err

  pub task-after : (r : Result A E) → IfOk r (λ x. c ≡ with_events b (events x)) → OnErr r (c ≡ b) → c.task ≡ b.task
  task-after r ok err = ap (λ (x : Booked). x.task) (became r ok err) ∙ task-with b (events_by events r)

  pub journal-after : (r : Result A E) → IfOk r (λ x. c ≡ with_events b (events x)) → OnErr r (c ≡ b) → c.journal ≡ b.journal ++ events_by events r
  journal-after r ok err = ap (λ (x : Booked). x.journal) (became r ok err) ∙ journal-with b (events_by events r)
