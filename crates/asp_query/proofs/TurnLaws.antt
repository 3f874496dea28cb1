-- What is known after each step for a query, by its answer.
use Rattle.std.proofs.Common.{◌≡◌, ◌+◌, ◌-◌, ◌^◌, ◌<◌, ◌≤◌, Bool, true, false, not, ◌&&◌, eqb, leb, List, [], ◌∷◌, length, Option, refl, sym, ap, ◌∙◌, subst, arith}
use Rattle.std.specs.Prelude.{ℤ, IsTrue}
use Rattle.std.specs.Option.{IsSome}
use Rattle.std.specs.List.{list_any}
use Rattle.std.proofs.lemmas.Bool.{false≢true, and_from, and_parts}
use Rattle.asp_model.specs.declared.program.Program.{Program}
use Rattle.asp_model.specs.declared.results.Mode.{Mode}
use Rattle.asp_model.specs.declared.results.Mode.TheVariants.{Enum}
use Rattle.asp_model.specs.declared.results.Reasoning.{Reasoning}
use Rattle.asp_model.specs.Asked.{reasoning_of}
use Rattle.asp_model.specs.Consequences.{used_up}
use Rattle.asp_model.specs.Holding.{all_hold}
use Rattle.asp_model.specs.Sets.{Atoms, same_set}
use Rattle.asp_model.specs.Models.{is_stable, models}
use Rattle.asp_model.specs.Costs.{cost}
use Rattle.asp_vars.specs.Conflicts.{has_all}
use Rattle.asp_vars.specs.Entailment.{Settled}
use Rattle.asp_vars.specs.Literals.{Literal, has_literal}
use Rattle.asp_vars.specs.Numbering.{var_count}
use Rattle.asp_vars.specs.Paid.{Clash, Units}
use Rattle.asp_vars.specs.declared.nogood.Nogood.{Nogood}
use Rattle.asp_propagate.specs.Useful.{IsSmaller}
use Rattle.asp_core.specs.declared.task.Task.{Task}
use Rattle.asp_core.specs.Boards.{distinct, is_answer, is_enough, lists, sought, wanted}
use Rattle.asp_book.specs.Books.{Booked, board}
use Rattle.asp_search.specs.Beside.{Propagates}
use Rattle.asp_search.specs.Refuting.{IsRefutation}
use Rattle.asp_search_laws.specs.Searching.{Searching, used}
use Rattle.asp_search_laws.specs.Steps.{HasSameTask, Records, Steps, burnt, IsStep}
use Rattle.asp_search_laws.specs.declared.step.Step.{Step}
use Rattle.asp_search_laws.specs.declared.step.Step.TheVariants as step
use Rattle.asp_crew_laws.specs.Working.{IsAtWork, IsSought}
use Rattle.asp_crew_laws.proofs.AgreeLaws.{settled-excused}
use Rattle.asp_crew_laws.proofs.WorkLaws.{work-burnt}
use Rattle.asp_crew.specs.Running.{unfound, work, work_left, IsRecorded, OnlyRecords, QueryStands}
use Rattle.asp_crew.proofs.BookLaws.{board-task}
use Rattle.asp_crew.proofs.StepLaws.{fewer-by, fewer-used, less-same, may-record, only-further, program-is, ready-same, seeks, unchanged, unfound-le, work-recorded}
use Rattle.asp_crew.proofs.WorkLaws.{work-paid, work-found, work-restarted, work-decided}
use Rattle.asp_query.specs.declared.leaf.Turn.{Turn}
use Rattle.asp_query.specs.declared.leaf.Turn.TheVariants.{Open, Exhausted, Lost}
use Rattle.asp_query.specs.Kept.{IsFree}
use Rattle.asp_query.specs.Turns.{GoesOn, IsAsking, IsDelivered, IsExhausted, IsSettledBy, IsThrough, Turns}

-- ---- what a step asks
pub may-step : (v : Booked) (s : Searching) (f : Units) → IsAsking v s f → IsSome s.cube × (f.program ≡ s.program)
may-step v s f is = (subst IsSome (sym is.entered) refl, is.ready.work.units.0.program ∙ sym (program-is Enum v s f is.ready))

-- without a limit it is never enough
pub not-enough : (v : Booked) → v.task.limit ≡ 0 → is_enough (board v) ≡ false
not-enough v e = ap (λ k. not (eqb k 0) && leb k (length (distinct (board v).answers))) (ap (λ (t : Task). t.limit) (board-task v) ∙ e)

-- ---- the task is the same
asking-same : (v : Booked) (s t : Searching) (f g : Units) → IsAsking v s f → HasSameTask s t → t.learnt < 2 ^ 64 → IsAtWork (board v) 0 Enum s.known s.bound g → IsAsking v t g
asking-same v s t f g is same learnt at = record {
  ready = ready-same Enum v s t f g is.ready same at;
  entered = same.cube ∙ is.entered;
  learnt = learnt;
  unlimited = is.unlimited;
  unbounded = same.bound ∙ is.unbounded;
}

-- whatever comes, it seeks all answers of the program
pub asking-free : (v : Booked) (s : Searching) (f : Units) → IsAsking v s f → IsFree v.task.program s
asking-free v s f is = record { program = is.ready.program; mode_is = is.ready.mode_is; bound = is.unbounded }

free-same : (p : Program) (s t : Searching) → IsFree p s → t.program ≡ s.program → t.mode ≡ s.mode → t.bound ≡ s.bound → IsFree p t
free-same p s t is program mode bound = record { program = program ∙ is.program; mode_is = mode ∙ is.mode_is; bound = bound ∙ is.bound }

-- ---- what follows is implied
pub ahead-same : (s t : Searching) → Propagates s t → HasSameTask s t
ahead-same s t a = record {
  program = ap (λ (x : Searching). x.program) a.ahead.same;
  mode = ap (λ (x : Searching). x.mode) a.ahead.same;
  cube = ap (λ (x : Searching). x.cube) a.ahead.same;
  known = ap (λ (x : Searching). x.known) a.ahead.same;
  bound = ap (λ (x : Searching). x.bound) a.ahead.same;
}

-- ---- by the answer
-- a nogood within no literals has none
none-within : (n : List Literal) → has_all [] n ≡ true → n ≡ []
none-within [] h = refl
none-within (l ∷ n) h = absurd (false≢true (and_parts (has_literal [] l) (has_all [] n) h).0)

module _ (gives : Nogood → Type 0) (silent : List (Option Bool) → Type 0) (v : Booked) (s t : Searching) (f g : Units)
    (is : IsAsking v s f) (r : Step) (h : IsStep gives silent s t f g r) where
  at : (x : Step) → r ≡ x → Steps gives silent s t [] f g x
  at x e = subst (λ (y : Step). Steps gives silent s t [] f g y) e (h [] is.entered)

  pub decided : r ≡ step.Decided → length t.entries ≤ var_count t.program + 1 → GoesOn v v s t f g
  decided e len =
      let d = at step.Decided e in
      subst (λ (u : Units). GoesOn v v s t f u) (sym d.fuel) (record {
        asking = asking-same v s t f f is d.same (subst (λ k. k < 2 ^ 64) (sym d.learnt) is.learnt) is.ready.work;
        only = unchanged v;
        less = less-same s t f (work_left s f) d.same
            (subst (λ k. work f.left (length (models s.program)) (unfound s.program (used s) s.bound) k (var_count s.program + 1) (length t.entries) < work_left s f) (sym d.learnt)
            (work-decided f.left (length (models s.program)) (unfound s.program (used s) s.bound) s.learnt (var_count s.program + 1) (length s.entries) (length t.entries) d.longer
            (subst (λ (q : Program). length t.entries ≤ var_count q + 1) d.same.program len)));
      })

  pub restarted : r ≡ step.Restarted → GoesOn v v s t f g
  restarted e =
      let d = at step.Restarted e in
      subst (λ (u : Units). GoesOn v v s t f u) (sym d.fuel) (record {
        asking = asking-same v s t f f is d.same (omega (arith, d.learnt)) is.ready.work;
        only = unchanged v;
        less = less-same s t f (work_left s f) d.same
            (subst (λ k. work f.left (length (models s.program)) (unfound s.program (used s) s.bound) k (var_count s.program + 1) (length t.entries) < work_left s f) (sym d.learnt)
            (work-restarted f.left (length (models s.program)) (unfound s.program (used s) s.bound) s.learnt (var_count s.program + 1) (length s.entries) (length t.entries) (omega (arith, d.due))));
      })

  pub learnt : r ≡ step.Learnt → GoesOn v v s t f g
  learnt e =
      let d = at step.Learnt e in
      let x : Clash = d.burns.clash in
      let small : t.learnt < 2 ^ 64 = omega (arith, d.learnt) in
      subst (λ (u : Units). GoesOn v v s t f u) (sym d.burns.paid) (record {
        asking = asking-same v s t f (burnt f x) is d.same small
            (work-burnt (board v) 0 Enum s.known s.bound f x is.ready.work d.burns.left
            (d.burns.conflict.reasoning ∙ ap reasoning_of is.ready.mode_is) d.burns.conflict.known d.burns.conflict.bound);
        only = unchanged v;
        less = less-same s t (burnt f x) (work_left s f) d.same
            (work-paid f.left (length (models s.program)) (unfound s.program (used s) s.bound) s.learnt (var_count s.program + 1) (length s.entries)
            (f.left - 1) (unfound s.program (used s) s.bound) t.learnt (length t.entries) (omega (arith, d.burns.left))
            (unfound-le s.program (used s) s.bound) small);
      })

  pub exhausted : (n : Nogood) → r ≡ step.Closed n → IsExhausted v v t g
  exhausted n e =
      let d = at (step.Closed n) e in
      let settled : IsSettledBy v n.lits = settled-excused (board v) s.known s.bound n.lits is.ready.work.agrees
      (subst (λ (p : Program). Settled p (used_up (sought (board v).task.goal) p s.known) s.bound n.lits) (program-is Enum v s f is.ready)
      (subst (λ (k : Option Reasoning). Settled s.program (used_up k s.program s.known) s.bound n.lits) (sym (seeks Enum v s f is.ready)) d.settled)) in
      subst (λ (u : Units). IsExhausted v v t u) (sym d.fuel) (record {
        asking = asking-same v s t f f is d.same (subst (λ k. k < 2 ^ 64) (sym d.learnt) is.learnt) is.ready.work;
        only = unchanged v;
        settled = subst (IsSettledBy v) (none-within n.lits d.within) settled;
      })

  -- ---- an answer
  pub answer-is : (S : Atoms) (ls : List ℤ) → ls ≡ wanted v.task → r ≡ step.Answer S → all_hold S ls ≡ true → IsTrue (is_answer v.task S)
  answer-is S ls same e holds =
      let d = at (step.Answer S) e in
      and_from (is_stable v.task.program S) (all_hold S (wanted v.task)) (subst (λ (q : Program). is_stable q S ≡ true) is.ready.program d.stable)
      (ap (all_hold S) (sym same) ∙ holds)

  pub answer-may : (S : Atoms) → r ≡ step.Answer S → IsTrue (lists v.task S)
  answer-may S e =
      let d = at (step.Answer S) e in
      may-record Enum v.task s.bound S (subst (λ (x : Task). IsSought Enum s.bound x.goal) (board-task v) is.ready.work.goal)
      (subst (λ (p : Program). IsSmaller (cost p S) s.bound) is.ready.program d.cheaper)

  pub answered : (w : Booked) (S : Atoms) → r ≡ step.Answer S → OnlyRecords v w → IsRecorded Enum (board v) (board w) S → GoesOn v w s t f g
  answered w S e only done =
      let d = at (step.Answer S) e in
      let records = subst (λ (m : Mode). Records m s t [] S) is.ready.mode_is d.records in
      let small : t.learnt < 2 ^ 64 = subst (λ k. k < 2 ^ 64) (sym d.learnt) is.learnt in
      let new : list_any (same_set S) (used_up (reasoning_of Enum) s.program s.known) ≡ false =
      ap (λ (m : Mode). list_any (same_set S) (used_up (reasoning_of m) s.program s.known)) (sym is.ready.mode_is) ∙ d.new in
      subst (λ (u : Units). GoesOn v w s t f u) (sym d.fuel) (record {
        asking = record {
          ready = record {
            task = subst QueryStands (sym only.task) is.ready.task;
            program = d.program ∙ is.ready.program ∙ ap (λ (x : Task). x.program) (sym only.task);
            mode_is = d.mode ∙ is.ready.mode_is;
            work = work-recorded Enum (board v) (board w) s t [] f S (program-is Enum v s f is.ready) is.ready.work new records done;
          };
          entered = d.cube ∙ is.entered;
          learnt = small;
          unlimited = ap (λ (x : Task). x.limit) only.task ∙ is.unlimited;
          unbounded = records.1 ∙ is.unbounded;
        };
        only = only;
        less =
            subst (λ (p : Program). work f.left (length (models p)) (unfound p (used_up (reasoning_of t.mode) p t.known) t.bound) t.learnt
            (var_count p + 1) (length t.entries) < work_left s f) (sym d.program)
            (work-found f.left (length (models s.program)) (unfound s.program (used s) s.bound) s.learnt (var_count s.program + 1) (length s.entries)
            (unfound s.program (used_up (reasoning_of t.mode) s.program t.known) t.bound) t.learnt (length t.entries)
            (fewer-used Enum s t is.ready.mode_is d.mode (fewer-by Enum s t [] S d.stable new d.cheaper records)) small);
      })

  -- the step's turn, as it was delivered or not
  pub delivered : (w : Booked) (S : Atoms) → r ≡ step.Answer S → (how : Turn) → IsDelivered v w S how → Turns v w s t f g how
  delivered w S e Open d = answered w S e d.0 d.1
  delivered w S e Exhausted d = absurd d
  delivered w S e Lost d =
      let a = at (step.Answer S) e in
      let records = subst (λ (m : Mode). Records m s t [] S) is.ready.mode_is a.records in
      free-same v.task.program s t (asking-free v s f is) a.program a.mode records.1

-- ---- steps in a row
pub record IsAlong (v w : Booked) (t : Searching) (g : Units) : Type 0 where
  pub asking : IsAsking w t g
  pub only : OnlyRecords v w

pub along-begins : (v : Booked) (s : Searching) (f : Units) → IsAsking v s f → IsAlong v v s f
along-begins v s f is = record { asking = is; only = unchanged v }

pub along-on : (u v w : Booked) (s t : Searching) (f g : Units) → IsAlong u v s f → GoesOn v w s t f g → IsAlong u w t g
along-on u v w s t f g a go = record { asking = go.asking; only = only-further u v w a.only go.only }

pub along-ahead : (u v : Booked) (s t : Searching) (f : Units) → IsAlong u v s f → Propagates s t → IsAlong u v t f
along-ahead u v s t f a p = record {
  asking = asking-same v s t f f a.asking (ahead-same s t p) (subst (λ k. k < 2 ^ 64) (sym (ap (λ (x : Searching). x.learnt) p.ahead.same)) a.asking.learnt) a.asking.ready.work;
  only = a.only;
}

-- where the search refutes some of the literals, the board excuses all that has them
pub along-refuted : (u v : Booked) (t : Searching) (f : Units) (cube n : List Literal) → IsAlong u v t f → IsRefutation t [] cube n → IsThrough u v t f n × IsTrue (has_all cube n)
along-refuted u v t f cube n a refutes =
    let is = a.asking in (
      record {
        asking = is;
        only = a.only;
        settled =
            settled-excused (board v) t.known t.bound n is.ready.work.agrees
            (subst (λ (p : Program). Settled p (used_up (sought (board v).task.goal) p t.known) t.bound n) (program-is Enum v t f is.ready)
            (subst (λ (k : Option Reasoning). Settled t.program (used_up k t.program t.known) t.bound n) (sym (seeks Enum v t f is.ready)) refutes.settled));
      },
      refutes.among,
    )
