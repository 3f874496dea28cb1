-- An answer is delivered, or recorded as the best.
use Rattle.std.proofs.Common.{◌≡◌, ◌⊎◌, Bool, true, false, not, List, [], ◌∷◌, Option, Some, None, refl, sym, ap, ◌∙◌, subst, inl, inr}
use Rattle.std.specs.Prelude.{ℤ, IsTrue, option_map}
use Rattle.std.proofs.lemmas.Bool.{false≢true}
use Rattle.asp_model.specs.declared.results.Mode.{Mode}
use Rattle.asp_model.specs.declared.results.Mode.TheVariants.{Enum, Opt, Consequences}
use Rattle.asp_model.specs.declared.results.Reasoning.{Reasoning}
use Rattle.asp_model.specs.Sets.{Atoms}
use Rattle.asp_model.specs.Costs.{cost, betters}
use Rattle.asp_core.specs.declared.event.Event.{Event}
use Rattle.asp_core.specs.declared.event.Event.TheVariants as event
use Rattle.asp_core.specs.declared.task.Task.{Task}
use Rattle.asp_core.specs.Boards.{Board, is_answer, is_enough, lists, optimises}
use Rattle.asp_core.specs.Events.{happens, maker}
use Rattle.asp_book.specs.Books.{Booked, board, with_events}
use Rattle.asp_book.specs.Replies.{Improves, delivered, improved}
use Rattle.asp_crew.specs.Running.{IsRecorded, IsUnbettered, MayRecord, OnlyRecords}
use Rattle.asp_crew.proofs.AddLaws.{adds-events, adds-none}
use Rattle.asp_crew.proofs.BookLaws.{board-task, board-with}

-- ---- what the book asks
listed-now : (v : Booked) (S : Atoms) → MayRecord Enum v.task S → IsTrue (lists (board v).task S)
listed-now v S may = subst (λ (t : Task). IsTrue (lists t S)) (sym (board-task v)) may

told-now : (v : Booked) (r : Reasoning) (S : Atoms) → MayRecord (Consequences r) v.task S → IsTrue (lists (board v).task S)
told-now v r S may = subst (λ (t : Task). IsTrue (lists t S)) (sym (board-task v)) may

-- in an enumeration and where consequences are sought answers are delivered
abbrev pub Delivers : Mode → Type 0
Delivers mode = (mode ≡ Enum) ⊎ ((r : Reasoning) × (mode ≡ Consequences r))

pub delivered-now : (mode : Mode) (v : Booked) (S : Atoms) → Delivers mode → MayRecord mode v.task S → IsTrue (lists (board v).task S)
delivered-now mode v S (inl e) may = listed-now v S (subst (λ (m : Mode). MayRecord m v.task S) e may)
delivered-now mode v S (inr e) may = told-now v e.0 S (subst (λ (m : Mode). MayRecord m v.task S) e.1 may)

pub optimised-now : (v : Booked) (S : Atoms) → MayRecord Opt v.task S → IsTrue (optimises (board v).task.goal)
optimised-now v S may = subst (λ (t : Task). IsTrue (optimises t.goal)) (sym (board-task v)) may

pub answer-now : (v : Booked) (S : Atoms) → IsTrue (is_answer v.task S) → IsTrue (is_answer (board v).task S)
answer-now v S h = subst (λ (t : Task). IsTrue (is_answer t S)) (sym (board-task v)) h

-- ---- what it gives
pub record Recorded (mode : Mode) (v w : Booked) (S : Atoms) : Type 0 where
  pub only : OnlyRecords v w
  pub recorded : IsRecorded mode (board v) (board w) S

only-by : (v w : Booked) (e : Event) → maker e ≡ 0 → w ≡ with_events v (e ∷ []) → (happens (board v) e).nodes ≡ (board v).nodes →
    (happens (board v) e).out ≡ (board v).out → (happens (board v) e).pool ≡ (board v).pool → OnlyRecords v w
only-by v w e main now nodes out pool =
    let b : board w ≡ happens (board v) e = ap board now ∙ board-with v e in
    record {
      task = ap (λ (z : Booked). z.task) now;
      adds = adds-events v w (e ∷ []) now (main, tt);
      nodes = ap (λ (c : Board). c.nodes) b ∙ nodes;
      out = ap (λ (c : Board). c.out) b ∙ out;
      pool = ap (λ (c : Board). c.pool) b ∙ pool;
    }

recorded-delivered : (v w : Booked) (S : Atoms) (r : Bool) → MayRecord Enum v.task S → IsTrue (is_answer v.task S) → is_enough (board v) ≡ false →
    r ≡ not (is_enough (board v)) → w ≡ with_events v (delivered 0 S r) → Recorded Enum v w S
recorded-delivered v w S true run answer more e now = record {
  only = only-by v w (event.Deliver 0 S) refl now refl refl refl;
  recorded = ((listed-now v S run, answer-now v S answer, more), ap board now ∙ board-with v (event.Deliver 0 S));
}
recorded-delivered v w S false run answer more e now = absurd (false≢true (e ∙ ap not more))

recorded-told : (v w : Booked) (k : Reasoning) (S : Atoms) (r : Bool) → MayRecord (Consequences k) v.task S → IsTrue (is_answer v.task S) →
    is_enough (board v) ≡ false → r ≡ not (is_enough (board v)) → w ≡ with_events v (delivered 0 S r) →
    Recorded (Consequences k) v w S
recorded-told v w k S true run answer more e now = record {
  only = only-by v w (event.Deliver 0 S) refl now refl refl refl;
  recorded = ((told-now v k S run, answer-now v S answer, more), ap board now ∙ board-with v (event.Deliver 0 S));
}
recorded-told v w k S false run answer more e now = absurd (false≢true (e ∙ ap not more))

pub recorded-by : (mode : Mode) (v w : Booked) (S : Atoms) (r : Bool) → Delivers mode → MayRecord mode v.task S → IsTrue (is_answer v.task S) →
    is_enough (board v) ≡ false → r ≡ not (is_enough (board v)) → w ≡ with_events v (delivered 0 S r) → Recorded mode v w S
recorded-by mode v w S r (inl e) run answer more enough now =
    subst (λ (m : Mode). Recorded m v w S) (sym e) (recorded-delivered v w S r (subst (λ (m : Mode). MayRecord m v.task S) e run) answer more enough now)
recorded-by mode v w S r (inr e) run answer more enough now =
    subst (λ (m : Mode). Recorded m v w S) (sym e.1) (recorded-told v w e.0 S r (subst (λ (m : Mode). MayRecord m v.task S) e.1 run) answer more enough now)

unbettered : (b : Board) (S : Atoms) (c : List ℤ) (o : Option Atoms) → b.best ≡ o → option_map (cost b.task.program) o ≡ Some c → betters (cost b.task.program S) c ≡ false → IsUnbettered b S
unbettered b S c None e h no_better = absurd (let f : ⊥ = cc in f)
unbettered b S c (Some B) e h no_better = record {
  best = B;
  stands = e;
  dearer = subst (λ (d : List ℤ). betters (cost b.task.program S) d ≡ false) (let f : c ≡ cost b.task.program B = cc in f) no_better;
}

pub recorded-improved : (v w : Booked) (S : Atoms) (r : Option (List ℤ)) → MayRecord Opt v.task S → IsTrue (is_answer v.task S) →
    Improves (board v) S r → w ≡ with_events v (improved 0 S r) → Recorded Opt v w S
recorded-improved v w S None run answer is now = record {
  only = only-by v w (event.Improve 0 S) refl now refl refl refl;
  recorded = inl ((optimised-now v S run, answer-now v S answer, is.better refl), ap board now ∙ board-with v (event.Improve 0 S));
}
recorded-improved v w S (Some c) run answer is now = record {
  only = record {
    task = ap (λ (z : Booked). z.task) now;
    adds = adds-none v w now;
    nodes = ap (λ (z : Booked). (board z).nodes) now;
    out =
        ap (λ (z : Booked). (board z).out) now;
    pool = ap (λ (z : Booked). (board z).pool) now;
  };
  recorded = inr (ap board now, unbettered (board v) S c (board v).best refl is.best.0 is.best.1);
}
