-- Steps on the path of a leaf, by one search for all answers.
use Rattle.std.proofs.Common.{◌≡◌, ℕ, ◌+◌, ◌<◌, ◌≤◌, Bool, true, List, [], ◌∷◌, length, Option, Some, refl, sym, ap, ◌∙◌, subst, inl, arith}
use Rattle.std.specs.Prelude.{not}
use Rattle.asp_model.specs.Sets.{Atoms}
use Rattle.asp_model.specs.declared.results.Mode.TheVariants.{Enum}
use Rattle.asp_vars.specs.Literals.{Literal}
use Rattle.asp_vars.specs.Numbering.{var_count}
use Rattle.asp_vars.specs.Paid.{Clash, Units}
use Rattle.asp_vars.specs.declared.nogood.Nogood.{Nogood}
use Rattle.asp_path.specs.Trees.{Node, cube_of}
use Rattle.asp_core.specs.declared.event.Event.TheVariants as event
use Rattle.asp_core.specs.Invariant.{IsCube}
use Rattle.asp_book.specs.Books.{Booked, board, with_events}
use Rattle.asp_search.specs.Beside.{Enters, IsOpen}
use Rattle.asp_search_laws.specs.Searching.{Searching}
use Rattle.asp_search_laws.specs.Steps.{IsStep}
use Rattle.asp_search_laws.specs.declared.step.Step.{Step}
use Rattle.asp_search_laws.specs.declared.step.Step.TheVariants as step
use Rattle.asp_crew.specs.Running.{IsReady, IsUnderway}
use Rattle.asp_crew.proofs.AddLaws.{adds-trans}
use Rattle.asp_crew.proofs.RecordLaws.{Recorded, recorded-by}
use Rattle.asp_crew.proofs.StepLaws.{IsAlong, IsAnswered, answer-may, answered, closed, decided, is-answer, learnt, restarted, unpaid}
use Rattle.asp_ledger.specs.Ledgers.{IsListing}
use Rattle.asp_ledger.proofs.LedgerLaws.{no-limit}
use Rattle.asp_stream.specs.Leaves.{EndsLeaf, GoesOn}
use Rattle.asp_stream.specs.Streams.{Knows}
use Rattle.asp_stream.specs.declared.leaf.Course.{Course}
use Rattle.asp_stream.specs.declared.leaf.Course.TheVariants as course
use Rattle.asp_stream.specs.declared.leaf.Left.TheVariants as left

module _ (gives : Nogood → Type 0) (silent : List (Option Bool) → Type 0) (v : Booked) (s t : Searching) (f g : Units) (is : IsUnderway Enum v s f) (r : Step)
    (h : IsStep gives silent s t f g r) where
  pub goes-decided : r ≡ step.Decided → length t.entries ≤ var_count t.program + 1 → GoesOn v v s t f g course.Open
  goes-decided e few =
      let go = decided gives silent Enum v s t f g is r h e few in
      record { underway = go.underway; only = go.only; cube = go.cube; course = go.course }

  pub goes-learnt : r ≡ step.Learnt → GoesOn v v s t f g course.Open
  goes-learnt e =
      let go = learnt gives silent Enum v s t f g is r h e in
      record { underway = go.underway; only = go.only; cube = go.cube; course = go.course }

  pub goes-restarted : r ≡ step.Restarted → GoesOn v v s t f g course.Open
  goes-restarted e =
      let go = restarted gives silent Enum v s t f g is r h e in
      record { underway = go.underway; only = go.only; cube = go.cube; course = go.course }

  module _ (task : IsListing v.task) where
    pub goes-closed : (n : Nogood) → r ≡ step.Closed n → GoesOn v v s t f g (course.Closed n)
    goes-closed n e =
        let go = closed gives silent Enum v s t f g is r h (no-limit v task) n e in
        record { underway = go.underway; only = go.only; cube = go.cube; course = go.course.1 }

    pub goes-unpaid : (x : Clash) → r ≡ step.NoFuel x → GoesOn v v s t f g (course.Unpaid x)
    goes-unpaid x e =
        let go = unpaid gives silent Enum v s t f g is r h (no-limit v task) x e in
        record { underway = go.underway; only = go.only; cube = go.cube; course = go.course }

    pub goes-answered : (w : Booked) (S : Atoms) → r ≡ step.Answer S → w ≡ with_events v (event.Deliver 0 S ∷ []) → GoesOn v w s t f g course.Open
    goes-answered w S e now =
        let kept : Recorded Enum v w S =
        recorded-by Enum v w S true (inl refl) (answer-may gives silent Enum v s t f g is r h S e) (is-answer gives silent Enum v s t f g is r h S e)
        (no-limit v task) (sym (ap not (no-limit v task))) now in
        let a : IsAnswered Enum v w s t f g = answered gives silent Enum v w s t f g is r h S e kept.only kept.recorded in
        record { underway = a.underway; only = a.only; cube = a.cube; course = a.left }

-- ---- the path begins
pub entered-underway : (v : Booked) (s t : Searching) (f : Units) (q : List Literal) → IsReady Enum v s f → Enters s t q → IsCube v.task q → IsUnderway Enum v t f
entered-underway v s t f q is enters cube = subst (λ (x : Searching). IsUnderway Enum v x f) (sym enters.same) (record {
  ready = record { task = is.task; program = is.program; mode_is = is.mode_is; work = is.work };
  entered = cube;
  learnt = omega arith;
})

-- ---- how it ends
pub along-same : (u w x : Booked) (r t : Searching) (g : Units) → IsAlong Enum u w r t g → x ≡ w → IsAlong Enum u x r t g
along-same u w x r t g a same = subst (λ (z : Booked). IsAlong Enum u z r t g) (sym same) a

pub knows-now : (u w : Booked) (leaf : ℕ) (r t : Searching) (g : Units) → IsAlong Enum u w r t g → r.cube ≡ Some (cube_of (board u).nodes leaf) → Knows w t leaf
knows-now u w leaf r t g a cube = record {
  program = a.underway.ready.program;
  mode = a.underway.ready.mode_is;
  agrees = a.underway.ready.work.agrees;
  cube = a.cube ∙ cube ∙ ap (λ (ns : List Node). Some (cube_of ns leaf)) (sym a.only.nodes);
}

pub along-step : (u v w : Booked) (r s t : Searching) (f g : Units) (how : Course) → IsAlong Enum u v r s f → GoesOn v w s t f g how → IsAlong Enum u w r t g
along-step u v w r s t f g how a go = record {
  underway = go.underway;
  only = record {
    task = go.only.task ∙ a.only.task;
    adds = adds-trans u v w a.only.adds go.only.adds;
    nodes = go.only.nodes ∙ a.only.nodes;
    out = go.only.out ∙ a.only.out;
    pool = go.only.pool ∙ a.only.pool;
  };
  cube = go.cube ∙ a.cube;
}

pub ends-closed : (u v w : Booked) (leaf : ℕ) (r s t : Searching) (f g : Units) (n : Nogood) → IsAlong Enum u v r s f → GoesOn v w s t f g (course.Closed n) →
    EndsLeaf u w leaf r t g (left.Closed n)
ends-closed u v w leaf r s t f g n a go =
    let b : IsAlong Enum u w r t g = along-step u v w r s t f g (course.Closed n) a go in
    record { ready = b.underway.ready; only = b.only; cube = b.cube; over = λ q e. go.course q (a.cube ∙ e) }

pub ends-unpaid : (u v w : Booked) (leaf : ℕ) (r s t : Searching) (f g : Units) (x : Clash) → IsAlong Enum u v r s f → GoesOn v w s t f g (course.Unpaid x) →
    EndsLeaf u w leaf r t g (left.Unpaid x)
ends-unpaid u v w leaf r s t f g x a go =
    let b : IsAlong Enum u w r t g = along-step u v w r s t f g (course.Unpaid x) a go in
    record { ready = b.underway.ready; only = b.only; cube = b.cube; over = (go.course.0, go.course.1, sym a.cube ∙ go.course.2, go.course.3) }

pub ends-crowded : (u w : Booked) (leaf : ℕ) (r t : Searching) (g : Units) (lit : Literal) → IsAlong Enum u w r t g → length (board w).nodes < 4194304 →
    IsOpen w.task.program (cube_of (board w).nodes leaf) lit → EndsLeaf u w leaf r t g (left.Crowded lit)
ends-crowded u w leaf r t g lit a room opens = record { ready = a.underway.ready; only = a.only; cube = a.cube; over = (room, opens) }

pub ends-unwanted : (u w : Booked) (leaf : ℕ) (r t : Searching) (g : Units) → IsAlong Enum u w r t g → EndsLeaf u w leaf r t g left.Unwanted
ends-unwanted u w leaf r t g a = record { ready = a.underway.ready; only = a.only; cube = a.cube; over = tt }
