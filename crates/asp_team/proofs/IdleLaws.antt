-- When all have come back, nobody has anything.
use Rattle.std.proofs.Common.{◌≡◌, ◌⊎◌, ℕ, suc, ◌+◌, ◌<◌, ◌≤◌, Bool, List, [], ◌∷◌, ◌++◌, append_assoc, length, Option, Some, sym, ap, ◌∙◌, subst, inl, inr, arith}
use Rattle.std.specs.Prelude.{unwrap_or}
use Rattle.std.specs.List.{All, AllByRecursion}
use Rattle.std.proofs.lemmas.Bool.{cases_eq}
use mathlib.Core.List.{IsPrefix}
use lib.ListN.{get_elem?}
use Rattle.asp_model.proofs.MemberLaws.{each-append}
use Rattle.asp_vault.specs.Makers.{placed, of_number, named, NoneBy}
use Rattle.asp_vault.specs.Rules.{Guests, Learnt, seeing}
use Rattle.asp_vault.specs.Seats.{view}
use Rattle.asp_vault.proofs.Filters.{none_if}
use Rattle.asp_vault.proofs.Prefixes.{prefix_trans}
use Rattle.asp_path.specs.declared.status.Status.TheVariants as status
use Rattle.asp_core.specs.declared.event.Event.{Event}
use Rattle.asp_core.specs.declared.task.Task.{Task}
use Rattle.asp_core.specs.Units.{out_of}
use Rattle.asp_core.specs.Boards.{start}
use Rattle.asp_core.specs.Events.{held_by, maker, replay}
use Rattle.asp_core.specs.Growth.{Spares}
use Rattle.asp_core.proofs.GrowthLaws.{Spares-run}
use Rattle.asp_book.specs.Books.{Booked, board, signed, IsJournalOf}
use Rattle.asp_book.specs.Calls.{Knows, no_task, task_of, seen_board}
use Rattle.asp_book.proofs.CallLaws.{others-are}
use Rattle.asp_crew_laws.specs.Reports as reports
use Rattle.asp_crew_laws.proofs.SharedLaws.{held-none, below-or}
use Rattle.asp_worker.specs.declared.worker.Worker.{Worker}
use Rattle.asp_worker.specs.Seats.{IsIdle}
use Rattle.asp_crew_laws.specs.Gone.{IsCrewGone, IsGone}
use Rattle.asp_team.specs.Joined.{IsHome, LeftBy}
use Rattle.asp_team.specs.Teams.{AreForks, AreNumbered}
use Rattle.asp_team.proofs.GoneLaws.{all-few, gone-prefix}
use Rattle.asp_team.proofs.JoinLaws.{since-none, spares-later}

-- ---- each number's worker is home
later : {X : Type 0} (P : X → Type 0) (x : X) (xs : List X) → All P (x ∷ xs) → All P xs
later P x xs all k d lt = all (suc k) d (omega (arith, lt))

pub each-number : (P : ℕ → Type 0) (i : ℕ) (hs : List Worker) → AreNumbered i hs → All (λ h. P (view h.seat).number) hs → (n : ℕ) → i ≤ n → n < i + length hs → P n
each-number P i [] is all n low high = absurd (omega (arith, low, high))
each-number P i (h ∷ hs) is all n low high =
    here (cases_eq n i) (λ low'. each-number P (suc i) hs is.1 (later (λ (x : Worker). P (view x.seat).number) h hs all) n low' (omega (arith, high)))
  where
    here : (n ≡ i) ⊎ (n ≡ i → ⊥) → (suc i ≤ n → P n) → P n
    here (inl e) rest = subst P (is.0 ∙ sym e) (all 0 h (omega arith))
    here (inr ne) rest = rest (omega (arith, low, ne))

-- ---- the book that was closed: v is the first seat's view, and w when it has looked once more
module _ (v w : Knows) (b : Booked) (idle : IsIdle v) (first : v.number ≡ 0) (mine : of_number signed v.number (placed 0 v.seen) ≡ named signed v.own)
    (home : (n : ℕ) → 0 < n → n ≤ v.splits → IsHome v n)
    (looks : w ≡ seeing w.seen v) (learnt : Learnt signed v w.seen) (more : IsPrefix w.seen b.journal)
    (same : (n : ℕ) → of_number signed n (placed 0 b.journal) ≡ of_number signed n (placed 0 w.seen)) (guests : Guests signed w b.journal)
    (about : Some b.task ≡ w.about) (lawful : IsJournalOf b.task b.journal) where
  task : task_of v ≡ b.task
  task = sym (ap (λ (o : Option Task). unwrap_or o no_task) (about ∙ ap (λ (x : Knows). x.about) looks))

  whole : IsPrefix v.seen b.journal
  whole = prefix_trans v.seen w.seen b.journal learnt.continues more

  record Nothing (n : ℕ) : Type 0 where
    free : held_by n (board b).nodes ≡ 0
    units : out_of (board b).out n ≡ 0

  -- a number that had nothing, and did nothing since
  had-none : (n : ℕ) (own : List (ℕ × Event)) → of_number signed n (placed 0 v.seen) ≡ named signed own →
      of_number signed n (placed 0 b.journal) ≡ named signed own → held_by n (seen_board v).nodes ≡ 0 → out_of (seen_board v).out n ≡ 0 → Nothing n
  had-none n own was now free units =
      let s : Spares n (replay b.task v.seen) (board b) = spares-later b.task n v.seen b.journal whole lawful (since-none n v.seen b.journal own whole was now) in
      record {
        free = s.count ∙ ap (λ (t : Task). held_by n (replay t v.seen).nodes) (sym task) ∙ free;
        units = s.units ∙ ap (λ (t : Task). out_of (replay t v.seen).out n) (sym task) ∙ units;
      }

  nothing : (n : ℕ) → Nothing n
  nothing n = here (below-or n v.splits)
    where
      here : (n ≡ 0) ⊎ (((0 < n) × (n ≤ v.splits)) ⊎ (v.splits < n)) → Nothing n
      here (inl e) =
          let k : v.number ≡ n = first ∙ sym e in
          subst Nothing k (had-none v.number v.own mine (same v.number ∙ learnt.own) idle.free idle.home)
      here (inr (inl some)) =
          let h : IsHome v n = home n some.0 some.1 in
          had-none n h.own h.stands (guests h.place (n, h.own) (ap (λ (x : Knows). get_elem? x.guests h.place) looks ∙ h.guest)) h.free h.home
      here (inr (inr over)) =
          let s : Spares n (start b.task) (board b) = Spares-run (start b.task) b.journal n lawful (others-are n b.journal (none_if signed n 0 b.journal (same n ∙ learnt.numbers first n over))) in
          record { free = s.count; units = s.units }

  pub idle-closed : reports.IsIdle (board b)
  idle-closed = record { free = held-none (board b).nodes (λ n. (nothing n).free); home = λ n. (nothing n).units }

  pub task-closed : Some b.task ≡ v.about
  task-closed = about ∙ ap (λ (x : Knows). x.about) looks

  -- nobody but the workers and number 0 did anything
  few : AllByRecursion (λ e. maker e ≤ v.splits) b.journal
  few = all-few v.splits b.journal (λ n over. none_if signed n 0 b.journal (same n ∙ learnt.numbers first n over))

  gone-closed : (n : ℕ) → IsHome v n → (short never : Bool) (begun : List Event) → LeftBy v short never begun n → IsGone b.task short never n begun b.journal
  gone-closed n h short never begun g =
      let now : of_number signed n (placed 0 b.journal) ≡ named signed h.own = guests h.place (n, h.own) (ap (λ (x : Knows). get_elem? x.guests h.place) looks ∙ h.guest) in
      gone-prefix b.task n v.seen b.journal whole lawful (since-none n v.seen b.journal h.own whole h.stands now) short short never (λ s. s) begun
      (subst (λ (t : Task). IsGone t short never n begun v.seen) task g)

  -- number 0 did nothing since it looked
  alone : NoneBy signed 0 whole.0
  alone = subst (λ n. NoneBy signed n whole.0) first (since-none v.number v.seen b.journal v.own whole mine (same v.number ∙ learnt.own))

  pub crew-closed : (short never : Bool) (begun rest : List Event) → v.seen ≡ begun ++ rest → AreForks begun → NoneBy signed 0 rest → ((n : ℕ) → 0 < n → n ≤ v.splits → LeftBy v short never begun n) →
      (all : List Event) × (b.journal ≡ begun ++ all) × IsCrewGone b.task v.splits short never begun all
  crew-closed short never begun rest seen forks since gone =
      let all : List Event = rest ++ whole.0 in
      let is : b.journal ≡ begun ++ all = sym whole.1 ∙ ap (λ (l : List Event). l ++ whole.0) seen ∙ append_assoc begun rest whole.0 in (
        all,
        is,
        record {
          lawful = subst (IsJournalOf b.task) is lawful;
          gone = λ n some le. subst (IsGone b.task short never n begun) is (gone-closed n (home n some le) short never begun (gone n some le));
          free = subst (λ (l : List Event). held_by 0 (replay b.task l).nodes ≡ 0) is (nothing 0).free;
          home = subst (λ (l : List Event). out_of (replay b.task l).out 0 ≡ 0) is (nothing 0).units;
          few = subst (AllByRecursion (λ e. maker e ≤ v.splits)) is few;
          forks = forks;
          since = each-append (λ e. maker e ≡ 0 → ⊥) rest whole.0 (others-are 0 rest since) (others-are 0 whole.0 alone);
        },
      )
