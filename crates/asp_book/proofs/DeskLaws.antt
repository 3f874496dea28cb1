-- The clauses of the calls at the desk, from those of the vault's and the book's calls.
use Rattle.std.proofs.Common.{◌≡◌, ℕ, ◌<◌, List, [], ◌++◌, length, get_or, Some, Result, Ok, Err, refl, sym, ap, ◌∙◌, subst}
use Rattle.std.specs.Result.{IfOk, OnErr}
use Rattle.asp_vars.specs.Literals.{Literal}
use Rattle.asp_vars.specs.Entailment.{HitsOnly}
use Rattle.asp_vars.specs.Paid.{Units}
use Rattle.asp_vars.proofs.ResolutionLaws.{HitsOnly-weaker}
use Rattle.asp_vault.specs.Makers.{OnlyBy}
use Rattle.asp_vault.specs.Rules.{holding, after_misses, given_back, Learnt}
use Rattle.asp_vault.specs.Moments.{Stays}
use Rattle.asp_vault.proofs.Calls.{stays_by}
use Rattle.asp_path.specs.declared.status.Status.TheVariants as status
use Rattle.asp_path.specs.Trees.{Node, is_leaf, nowhere, cube_of, status_of}
use Rattle.asp_path.proofs.TreeLaws.{leaf-within}
use Rattle.asp_core.specs.declared.event.Event.{Event}
use Rattle.asp_core.specs.declared.task.Task.{Task}
use Rattle.asp_core.specs.Units.{out_of}
use Rattle.asp_core.specs.Boards.{Board, is_excused}
use Rattle.asp_core.specs.Events.{held_by, replay}
use Rattle.asp_book.specs.Books.{Booked, board, with_events, signed, IsJournalOf}
use Rattle.asp_book.specs.Calls.{Knows, task_of, seen_board, IsCall, Adds}
use Rattle.asp_book.specs.Fuels.{ComesBack}
use Rattle.asp_book.proofs.BookLaws.{Fits-grows}
use Rattle.asp_book.proofs.CallLaws.{events_by, spares-since, grows-since, board-is, call-of, task-after, journal-after}

-- what is known once the book was taken: v knew the seat before, u knows it now, n is its number
pub record HasTaken (v u : Knows) (b : Booked) (n : ℕ) : Type 0 where
  pub misses : ℕ
  pub took : u ≡ holding b.journal (after_misses misses v)
  pub learnt : Learnt signed v b.journal
  pub about : Some b.task ≡ v.about
  pub sound : IsJournalOf b.task b.journal
  pub number : n ≡ u.number

module _ (v u : Knows) (b : Booked) (n : ℕ) (has : HasTaken v u b n) where
  pub number-is : n ≡ v.number
  number-is = has.number ∙ ap (λ (x : Knows). x.number) has.took

  -- ---- what the seat has, it still has
  pub free-since : held_by v.number (seen_board v).nodes ≡ 0 → held_by n (board b).nodes ≡ 0
  free-since h = ap (λ k. held_by k (board b).nodes) number-is ∙ (spares-since v b has.learnt has.about has.sound).count ∙ h

  pub node-since : (leaf : ℕ) → status_of (seen_board v).nodes leaf ≡ status.Held v.number → get_or (board b).nodes leaf nowhere ≡ get_or (seen_board v).nodes leaf nowhere
  node-since leaf h = (spares-since v b has.learnt has.about has.sound).leaves leaf h

  pub held-since : (leaf : ℕ) → status_of (seen_board v).nodes leaf ≡ status.Held v.number → status_of (board b).nodes leaf ≡ status.Held n
  held-since leaf h = ap (λ (x : Node). x.status) (node-since leaf h) ∙ h ∙ ap status.Held (sym number-is)

  pub cube-since : (leaf : ℕ) → status_of (seen_board v).nodes leaf ≡ status.Held v.number → cube_of (seen_board v).nodes leaf ≡ cube_of (board b).nodes leaf
  cube-since leaf h = ap (λ (x : Node). x.cube) (sym (node-since leaf h))

  pub within-since : (leaf : ℕ) → status_of (seen_board v).nodes leaf ≡ status.Held v.number → leaf < length (board b).nodes
  within-since leaf h = leaf-within (board b).nodes leaf (ap is_leaf (held-since leaf h))

  pub task-since : (seen_board v).task ≡ (board b).task
  task-since = sym (grows-since v b has.learnt has.about has.sound).task

  pub settled-since : (l : List Literal) → HitsOnly (seen_board v).task.program (is_excused (seen_board v)) l → HitsOnly (board b).task.program (is_excused (board b)) l
  settled-since l h =
      subst (λ (t : Task). HitsOnly t.program (is_excused (board b)) l) task-since
      (HitsOnly-weaker (seen_board v).task.program (is_excused (seen_board v)) (is_excused (board b)) l (λ S e. (grows-since v b has.learnt has.about has.sound).excused S e) h)

  pub fuel-since : (f : Units) → ComesBack (seen_board v) (out_of (seen_board v).out v.number) f → ComesBack (board b) (out_of (board b).out n) f
  fuel-since f h = (
    Fits-grows (seen_board v) (board b) f (grows-since v b has.learnt has.about has.sound) h.0,
    h.1 ∙ sym (spares-since v b has.learnt has.about has.sound).units ∙ ap (out_of (board b).out) (sym number-is),
  )

  -- ---- what the call tells
  pub adds : {A E : Type 0} (c : Booked) (events : ℕ → A → List Event) → ((k : ℕ) (x : A) → OnlyBy signed k (events k x)) → (r : Result A E) →
      IfOk r (λ x. c ≡ with_events b (events n x)) → OnErr r (c ≡ b) → Adds u c.journal
  adds {A = A} {E = E} c events by r ok err = (
    events_by (events n) r,
    journal-after b c (events n) r ok err ∙ ap (λ (l : List Event). l ++ events_by (events n) r) (sym (ap (λ (x : Knows). x.seen) has.took)),
    subst (λ k. OnlyBy signed k (events_by (events n) r)) has.number (each r),
  )
    where
      each : (r : Result A E) → OnlyBy signed n (events_by (events n) r)
      each (Ok x) = by n x
      each (Err e) = tt

  pub adds_surely : {A : Type 0} (c : Booked) (events : ℕ → A → List Event) → ((k : ℕ) (x : A) → OnlyBy signed k (events k x)) → (x : A) → c ≡ with_events b (events n x) → Adds u c.journal
  adds_surely {A = A} c events by x is = adds {A = A} {E = Unit {0}} c events by (Ok x) is tt

  module _ (w : Knows) (c : Booked) (gave : w ≡ given_back c.journal u) where
    pub stays : {A E : Type 0} (events : ℕ → A → List Event) (r : Result A E) → IfOk r (λ x. c ≡ with_events b (events n x)) → OnErr r (c ≡ b) → Stays v w
    stays events r ok err = stays_by signed v u w has.misses b.journal (events_by (events n) r) has.took
        (gave ∙ ap (λ (l : List Event). given_back l u) (journal-after b c (events n) r ok err)) has.learnt

    pub stays_surely : {A : Type 0} (events : ℕ → A → List Event) (x : A) → c ≡ with_events b (events n x) → Stays v w
    stays_surely {A = A} events x is = stays {A = A} {E = Unit {0}} events (Ok x) is tt

    called : {A E : Type 0} (events : ℕ → A → List Event) (r : Result A E) → IsJournalOf c.task c.journal →
        IfOk r (λ x. c ≡ with_events b (events n x)) → OnErr r (c ≡ b) → IsCall v w b.journal (events_by (events n) r)
    called events r keeps ok err =
        call-of v b has.learnt has.about has.sound u w has.misses c.journal (events_by (events n) r) has.took gave
        (subst (λ (t : Task). IsJournalOf t c.journal) (task-after b c (events n) r ok err) keeps) (journal-after b c (events n) r ok err)

    pub replies : {A E : Type 0} (events : ℕ → A → List Event) (Says : Board → A → Type 0) (r : Result A E) → IsJournalOf c.task c.journal →
        IfOk r (λ x. c ≡ with_events b (events n x)) → OnErr r (c ≡ b) → IfOk r (Says (board b))
        → IfOk r (λ x. (before : List Event) × Says (replay (task_of v) before) x × IsCall v w before (events v.number x))
    replies {A = A} {E = E} events Says (Ok x) keeps ok err says = (
      b.journal,
      subst (λ (z : Board). Says z x) (sym (board-is v b has.learnt has.about has.sound)) says,
      subst (λ k. IsCall v w b.journal (events k x)) number-is (called {A = A} {E = E} events (Ok x) keeps ok err),
    )
    replies events Says (Err e) keeps ok err says = tt

    pub done : {A E : Type 0} (events : ℕ → A → List Event) (r : Result A E) → IsJournalOf c.task c.journal →
        IfOk r (λ x. c ≡ with_events b (events n x)) → OnErr r (c ≡ b) → IfOk r (λ x. (before : List Event) × IsCall v w before (events v.number x))
    done {A = A} {E = E} events (Ok x) keeps ok err = (b.journal, subst (λ k. IsCall v w b.journal (events k x)) number-is (called {A = A} {E = E} events (Ok x) keeps ok err))
    done events (Err e) keeps ok err = tt

    pub refuses : {A E : Type 0} (events : ℕ → A → List Event) (r : Result A E) → IsJournalOf c.task c.journal →
        IfOk r (λ x. c ≡ with_events b (events n x)) → OnErr r (c ≡ b) → OnErr r ((before : List Event) × IsCall v w before [])
    refuses events (Ok x) keeps ok err = tt
    refuses {A = A} {E = E} events (Err e) keeps ok err = (b.journal, called {A = A} {E = E} events (Err e) keeps ok err)

    -- of a call that can't be refused
    pub calls : {A : Type 0} (events : ℕ → A → List Event) (x : A) → IsJournalOf c.task c.journal → c ≡ with_events b (events n x) → (before : List Event) × IsCall v w before (events v.number x)
    calls {A = A} events x keeps is = (b.journal, subst (λ k. IsCall v w b.journal (events k x)) number-is (called {A = A} {E = Unit {0}} events (Ok x) keeps is tt))

    pub answers : {A : Type 0} (events : ℕ → A → List Event) (Says : Board → A → Type 0) (x : A) → IsJournalOf c.task c.journal → c ≡ with_events b (events n x) → Says (board b) x
        → (before : List Event) × Says (replay (task_of v) before) x × IsCall v w before (events v.number x)
    answers {A = A} events Says x keeps is says = replies {A = A} {E = Unit {0}} events Says (Ok x) keeps is tt says

-- a call that changes nothing
pub same-ok : {A E : Type 0} (r : Result A E) (b : Booked) → IfOk r (λ x. b ≡ b)
same-ok (Ok x) b = refl
same-ok (Err e) b = tt

pub same-err : {A E : Type 0} (r : Result A E) (b : Booked) → OnErr r (b ≡ b)
same-err (Ok x) b = tt
same-err (Err e) b = refl
