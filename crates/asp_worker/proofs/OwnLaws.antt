-- What a number did, as its seat goes from call to call.
use Rattle.std.proofs.Common.{◌≡◌, ℕ, Bool, true, false, not, eqb, List, [], ◌∷◌, ◌++◌, length, drop, Option, Some, None, append_assoc, refl, sym, ap, ◌∙◌, subst}
use Rattle.std.specs.List.{AllByRecursion}
use Rattle.std.proofs.lemmas.Bool.{false≢true, eq-eqb, eqb-true}
use Rattle.std.proofs.lemmas.List.{append-nil}
use mathlib.Core.List.{IsPrefix}
use Rattle.asp_model.proofs.MemberLaws.{each_weaker, each-append}
use Rattle.asp_vault.specs.Makers.{NoneBy}
use Rattle.asp_vault.specs.Moments.{Stays}
use Rattle.asp_vault.proofs.Filters.{drop_prefix}
use Rattle.asp_vault.proofs.Prefixes.{prefix_self, prefix_trans}
use Rattle.asp_path.specs.Trees.{open_from}
use Rattle.asp_core.specs.declared.event.Event.{Event}
use Rattle.asp_core.specs.declared.task.Task.{Task}
use Rattle.asp_core.specs.Boards.{Board}
use Rattle.asp_core.specs.Events.{maker, replay}
use Rattle.asp_book.specs.Books.{signed}
use Rattle.asp_book.specs.Calls.{Knows, task_of, seen_board, IsCall}
use Rattle.asp_book.proofs.CallLaws.{task-stays, lawful-after}
use Rattle.asp_crew_laws.specs.Runs.{IsBack}
use Rattle.asp_worker.specs.Seats.{IsTidy, OwnAre, Was, IsQuietSince, IsQuietIf, Behaves}

abbrev pub By : (Event → Type 0) → ℕ → List Event → Type 0
By P n events = AllByRecursion (λ e. maker e ≡ n → P e) events

-- a number that did nothing
pub others-own : (P : Event → Type 0) (n : ℕ) (events : List Event) → NoneBy signed n events → By P n events
others-own P n [] h = tt
others-own P n (e ∷ events) h = (λ same. absurd (false≢true (sym h.0 ∙ eq-eqb (maker e) n same)), others-own P n events h.1)

pub own-weaker : (P Q : Event → Type 0) (n : ℕ) (events : List Event) → ((e : Event) → P e → Q e) → By P n events → By Q n events
own-weaker P Q n events f h = each_weaker (λ e. maker e ≡ n → P e) (λ e. maker e ≡ n → Q e) (λ e k same. f e (k same)) events h

-- what was added since, of two lists of which the first begins the second
pub since-is : (n : ℕ) (xs ys : List Event) (p : IsPrefix xs ys) → NoneBy signed n (drop (length xs) ys) → NoneBy signed n p.0
since-is n xs ys p h = subst (NoneBy signed n) (ap (drop (length xs)) (sym p.1) ∙ drop_prefix xs p.0) h

-- others added something, and then the number did
pub own-more : (P : Event → Type 0) (v w : Knows) (rest added : List Event) → w.number ≡ v.number → w.seen ≡ (v.seen ++ rest) ++ added →
    NoneBy signed v.number rest → By P v.number added → OwnAre P v → OwnAre P w
own-more P v w rest added number is none mine all =
    subst (λ n. By P n w.seen) (sym number)
    (subst (By P v.number) (sym is)
    (each-append (λ e. maker e ≡ v.number → P e) (v.seen ++ rest) added (each-append (λ e. maker e ≡ v.number → P e) v.seen rest all (others-own P v.number rest none)) mine))

-- ---- moments
module _ (P : Board → Type 0) where
  -- the board is so now
  pub was-now : (v : Knows) → P (seen_board v) → Was P v
  was-now v h = record { before = v.seen; after = []; is = sym (append-nil v.seen); so = h }

  pub was-on : (v w : Knows) → Stays v w → Was P v → Was P w
  was-on v w stays h = record {
    before = h.before;
    after = h.after ++ stays.seen.0;
    is = sym stays.seen.1 ∙ ap (λ (l : List Event). l ++ stays.seen.0) h.is ∙ append_assoc h.before h.after stays.seen.0;
    so = subst (λ (t : Task). P (replay t h.before)) (sym (task-stays v w stays)) h.so;
  }

-- where the reply says that it isn't enough, it is
pub enough-by : (b r : Bool) → r ≡ not b → r ≡ false → b ≡ true
enough-by true r is e = refl
enough-by false r is e = absurd (false≢true (sym e ∙ is))

-- no leaf is open now
pub quiet-now : (v : Knows) → open_from 0 (seen_board v).nodes ≡ [] → IsQuietSince v.seen v
quiet-now v none = record {
  quiet = record { before = v.seen; after = []; is = sym (append-nil v.seen); none = none; since = tt };
  late = prefix_self v.seen;
}

pub quiet-later : (begun since : List Event) (v : Knows) → IsPrefix begun since → IsQuietSince since v → IsQuietSince begun v
quiet-later begun since v p q = record { quiet = q.quiet; late = prefix_trans begun since q.quiet.before p q.late }

pub quiet-if-later : (begun since : List Event) (v : Knows) → IsPrefix begun since → (o : Option ℕ) → IsQuietIf since v o → IsQuietIf begun v o
quiet-if-later begun since v p None q = quiet-later begun since v p q
quiet-if-later begun since v p (Some leaf) q = tt

-- ---- one call
backs : (n : ℕ) (events : List Event) → By IsBack n events → AllByRecursion (λ e. eqb (maker e) n ≡ true → IsBack e) events
backs n events h = each_weaker (λ e. maker e ≡ n → IsBack e) (λ e. eqb (maker e) n ≡ true → IsBack e) (λ e k same. k (eqb-true (maker e) n same)) events h

module _ (v w : Knows) (before added : List Event) (stays : Stays v w) (call : IsCall v w before added) where
  others : NoneBy signed v.number call.moment.more.0
  others = since-is v.number v.seen before call.moment.more call.moment.others

  all-is : w.seen ≡ (v.seen ++ call.moment.more.0) ++ added
  all-is = call.moment.seen ∙ ap (λ (l : List Event). l ++ added) (sym call.moment.more.1)

  pub own-call : (P : Event → Type 0) → By P v.number added → OwnAre P v → OwnAre P w
  own-call P mine all = own-more P v w call.moment.more.0 added stays.number all-is others mine all

  pub behaves-call : By IsTidy v.number added → Behaves v w
  behaves-call mine = record { journal = lawful-after v w before added stays call; tidy = own-call IsTidy mine }

  -- the board was so when the call was made
  pub was-call : (P : Board → Type 0) → P (replay (task_of v) before) → Was P w
  was-call P h = record {
    before = before;
    after = added;
    is = call.moment.seen;
    so = subst (λ (t : Task). P (replay t before)) (sym (task-stays v w stays)) h;
  }

  -- the number has given units back at most
  pub quiet-call : (begun : List Event) → By IsBack v.number added → IsQuietSince begun v → IsQuietSince begun w
  quiet-call begun mine q =
      let rest : List Event = call.moment.more.0 in
      let P : Event → Type 0 = λ e. eqb (maker e) v.number ≡ true → IsBack e in
      record {
        quiet = record {
          before = q.quiet.before;
          after = (q.quiet.after ++ rest) ++ added;
          is = all-is ∙ ap (λ (l : List Event). (l ++ rest) ++ added) q.quiet.is ∙ ap (λ (l : List Event). l ++ added) (append_assoc q.quiet.before q.quiet.after rest)
              ∙ append_assoc q.quiet.before (q.quiet.after ++ rest) added;
          none = ap (λ (t : Task). open_from 0 (replay t q.quiet.before).nodes) (task-stays v w stays) ∙ q.quiet.none;
          since = subst (λ n. AllByRecursion (λ e. eqb (maker e) n ≡ true → IsBack e) ((q.quiet.after ++ rest) ++ added)) (sym stays.number)
              (each-append P (q.quiet.after ++ rest) added (each-append P q.quiet.after rest q.quiet.since (backs v.number rest (others-own IsBack v.number rest others))) (backs v.number added mine));
        };
        late = q.late;
      }
