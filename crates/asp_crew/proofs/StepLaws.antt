-- What is known after each step on a path, by its answer.
use Rattle.std.proofs.Common.{◌≡◌, ℕ, ◌+◌, ◌-◌, ◌^◌, ◌<◌, ◌≤◌, Bool, true, false, List, [], ◌∷◌, ◌++◌, length, Option, Some, None, refl, sym, ap, ◌∙◌, subst, inl, inr, arith}
use Rattle.std.specs.Prelude.{ℤ, IsTrue, not}
use Rattle.std.specs.Option.{IsSome}
use Rattle.std.specs.List.{list_any}
use Rattle.std.proofs.lemmas.List.Sums.{length-filter, count_by-le-length}
use Rattle.asp_model.specs.declared.program.Program.{Program}
use Rattle.asp_model.specs.declared.results.Mode.{Mode}
use Rattle.asp_model.specs.declared.results.Mode.TheVariants.{Enum, Opt, Consequences}
use Rattle.asp_model.specs.declared.results.Reasoning.{Reasoning}
use Rattle.asp_model.specs.Asked.{reasoning_of}
use Rattle.asp_model.specs.Consequences.{common_sets, used_up}
use Rattle.asp_model.specs.Sets.{Atoms, same_set}
use Rattle.asp_model.specs.Models.{is_stable, models}
use Rattle.asp_model.specs.Costs.{cost}
use Rattle.asp_vars.specs.Literals.{Literal, hits}
use Rattle.asp_vars.specs.Numbering.{values, var_count}
use Rattle.asp_vars.specs.Conflicts.{IsConflict}
use Rattle.asp_vars.specs.Entailment.{Settled, costs_bound, is_done}
use Rattle.asp_vars.specs.Paid.{Clash, Units}
use Rattle.asp_vars.specs.declared.nogood.Nogood.{Nogood}
use Rattle.asp_core.specs.declared.event.Event.TheVariants as event
use Rattle.asp_core.specs.declared.task.Task.{Task}
use Rattle.asp_core.specs.Boards.{Board, is_answer, is_enough, sought}
use Rattle.asp_core.specs.Invariant.{IsCube}
use Rattle.asp_core.proofs.BoardLaws.{wanted-stand}
use Rattle.asp_core.proofs.CubeLaws.{answer-in_cube}
use Rattle.asp_book.specs.Books.{Booked, board}
use Rattle.asp_propagate.specs.Useful.{IsSmaller}
use Rattle.asp_search.specs.Beside.{Enters}
use Rattle.asp_search_laws.specs.Searching.{Searching, used}
use Rattle.asp_search_laws.specs.Steps.{HasSameTask, burnt, IsStep, Records}
use Rattle.asp_search_laws.specs.declared.step.Step.{Step}
use Rattle.asp_search_laws.specs.declared.step.Step.TheVariants as step
use Rattle.asp_crew_laws.specs.Working.{IsAtWork, IsSought}
use Rattle.asp_crew_laws.proofs.AgreeLaws.{settled-excused}
use Rattle.asp_crew_laws.proofs.WorkLaws.{may-list, may-optimise, may-tell, sought-is, work-burnt, work-delivered, work-improved, work-met, work-told, work-unimproved}
use Rattle.asp_crew.specs.declared.leaf.Course.{Course}
use Rattle.asp_crew.specs.declared.leaf.Course.TheVariants.{Open, Closed, Unpaid}
use Rattle.asp_crew.specs.declared.leaf.Left.TheVariants as left
use Rattle.asp_crew.specs.Running.{unfound, work, work_left, QueryStands, IsReady, IsEntered, IsUnderway, MayRecord, OnlyRecords, IsRecorded, Goes, Ends}
use Rattle.asp_crew.proofs.AddLaws.{adds-self, adds-trans}
use Rattle.asp_crew.proofs.BookLaws.{board-task}
use Rattle.asp_crew.proofs.BoundLaws.{fewer-lower, fewer-push, fewer-told}
use Rattle.asp_crew.proofs.WorkLaws.{work-paid, work-found, work-restarted, work-decided}

-- ---- the task is the same
pub program-is : (mode : Mode) (v : Booked) (s : Searching) (f : Units) → IsReady mode v s f → s.program ≡ (board v).task.program
program-is mode v s f is = is.program ∙ ap (λ (t : Task). t.program) (sym (board-task v))

-- which consequences the board seeks
pub seeks : (mode : Mode) (v : Booked) (s : Searching) (f : Units) → IsReady mode v s f → sought (board v).task.goal ≡ reasoning_of s.mode
seeks mode v s f is = sought-is mode s.bound (board v).task.goal is.work.goal ∙ ap reasoning_of (sym is.mode_is)

pub ready-same : (mode : Mode) (v : Booked) (s t : Searching) (f g : Units) → IsReady mode v s f → HasSameTask s t → IsAtWork (board v) 0 mode s.known s.bound g → IsReady mode v t g
ready-same mode v s t f g is same at = record {
  task = is.task;
  program = same.program ∙ is.program;
  mode_is = same.mode ∙ is.mode_is;
  work = subst (λ (k : List Atoms). IsAtWork (board v) 0 mode k t.bound g) (sym same.known) (subst (λ (b : Option (List ℤ)). IsAtWork (board v) 0 mode s.known b g) (sym same.bound) at);
}

underway-same : (mode : Mode) (v : Booked) (s t : Searching) (f g : Units) → IsUnderway mode v s f → HasSameTask s t → t.learnt < 2 ^ 64 →
    IsAtWork (board v) 0 mode s.known s.bound g → IsUnderway mode v t g
underway-same mode v s t f g is same learnt at = record {
  ready = ready-same mode v s t f g is.ready same at;
  entered = subst (IsEntered v.task) (sym same.cube) is.entered;
  learnt = learnt;
}

pub unchanged : (v : Booked) → OnlyRecords v v
unchanged v = record { task = refl; adds = adds-self v; nodes = refl; out = refl; pool = refl }

-- the work that is left, by what the search was before
left-same : (s t : Searching) (g : Units) → HasSameTask s t →
    work_left t g ≡ work g.left (length (models s.program)) (unfound s.program (used s) s.bound) t.learnt (var_count s.program + 1) (length t.entries)
left-same s t g same =
    ap (λ (p : Program). work g.left (length (models p)) (unfound p (used_up (reasoning_of t.mode) p t.known) t.bound) t.learnt (var_count p + 1) (length t.entries)) same.program
    ∙ ap (λ (m : Mode). work g.left (length (models s.program)) (unfound s.program (used_up (reasoning_of m) s.program t.known) t.bound) t.learnt
    (var_count s.program + 1) (length t.entries)) same.mode
    ∙ ap (λ (k : List Atoms). work g.left (length (models s.program)) (unfound s.program (used_up (reasoning_of s.mode) s.program k) t.bound) t.learnt
    (var_count s.program + 1) (length t.entries)) same.known
    ∙ ap (λ (b : Option (List ℤ)). work g.left (length (models s.program)) (unfound s.program (used s) b) t.learnt (var_count s.program + 1) (length t.entries)) same.bound

pub less-same : (s t : Searching) (g : Units) (n : ℕ) → HasSameTask s t →
    work g.left (length (models s.program)) (unfound s.program (used s) s.bound) t.learnt (var_count s.program + 1) (length t.entries) < n →
    work_left t g < n
less-same s t g n same less = subst (λ k. k < n) (sym (left-same s t g same)) less

pub unfound-le : (p : Program) (known : List Atoms) (bound : Option (List ℤ)) → unfound p known bound ≤ length (models p)
unfound-le p known bound =
    let q : Atoms → Bool = λ S. not (is_done p known bound S) in
    omega (arith, length-filter q (models p), count_by-le-length q (models p))

-- the path that is entered
entered-by : (t : Task) (o : Option (List Literal)) → IsEntered t o → (q : List Literal) × (o ≡ Some q) × IsCube t q
entered-by t None h = absurd h
entered-by t (Some q) h = (q, refl, h)

-- ---- by the answer
at : (gives : Nogood → Type 0) (silent : List (Option Bool) → Type 0) (s t : Searching) (f g : Units) (r v : Step) → r ≡ v → IsStep gives silent s t f g r → IsStep gives silent s t f g v
at gives silent s t f g r v e h = subst (λ (x : Step). IsStep gives silent s t f g x) e h

module _ (gives : Nogood → Type 0) (silent : List (Option Bool) → Type 0) (mode : Mode) (v : Booked) (s t : Searching) (f g : Units)
    (is : IsUnderway mode v s f) (r : Step) (h : IsStep gives silent s t f g r) where
  path : (q : List Literal) × (s.cube ≡ Some q) × IsCube v.task q
  path = entered-by v.task s.cube is.entered

  pub decided : r ≡ step.Decided → length t.entries ≤ var_count t.program + 1 → Goes mode v v s t f g Open
  decided e len =
      let d = at gives silent s t f g r step.Decided e h path.0 path.1 in
      subst (λ (u : Units). Goes mode v v s t f u Open) (sym d.fuel) (record {
        underway = underway-same mode v s t f f is d.same (subst (λ k. k < 2 ^ 64) (sym d.learnt) is.learnt) is.ready.work;
        only = unchanged v;
        cube = d.same.cube;
        shown = λ e. inl d.same.known;
        course = less-same s t f (work_left s f) d.same
            (subst (λ k. work f.left (length (models s.program)) (unfound s.program (used s) s.bound) k (var_count s.program + 1) (length t.entries) < work_left s f) (sym d.learnt)
            (work-decided f.left (length (models s.program)) (unfound s.program (used s) s.bound) s.learnt (var_count s.program + 1) (length s.entries) (length t.entries) d.longer
            (subst (λ (q : Program). length t.entries ≤ var_count q + 1) d.same.program len)));
      })

  pub restarted : r ≡ step.Restarted → Goes mode v v s t f g Open
  restarted e =
      let d = at gives silent s t f g r step.Restarted e h path.0 path.1 in
      subst (λ (u : Units). Goes mode v v s t f u Open) (sym d.fuel) (record {
        underway = underway-same mode v s t f f is d.same (omega (arith, d.learnt)) is.ready.work;
        only = unchanged v;
        cube = d.same.cube;
        shown = λ e. inl d.same.known;
        course = less-same s t f (work_left s f) d.same
            (subst (λ k. work f.left (length (models s.program)) (unfound s.program (used s) s.bound) k (var_count s.program + 1) (length t.entries) < work_left s f) (sym d.learnt)
            (work-restarted f.left (length (models s.program)) (unfound s.program (used s) s.bound) s.learnt (var_count s.program + 1) (length s.entries) (length t.entries) (omega (arith, d.due))));
      })

  pub learnt : r ≡ step.Learnt → Goes mode v v s t f g Open
  learnt e =
      let d = at gives silent s t f g r step.Learnt e h path.0 path.1 in
      let x : Clash = d.burns.clash in
      let small : t.learnt < 2 ^ 64 = omega (arith, d.learnt) in
      subst (λ (u : Units). Goes mode v v s t f u Open) (sym d.burns.paid) (record {
        underway = underway-same mode v s t f (burnt f x) is d.same small
            (work-burnt (board v) 0 mode s.known s.bound f x is.ready.work d.burns.left
            (d.burns.conflict.reasoning ∙ ap reasoning_of is.ready.mode_is) d.burns.conflict.known d.burns.conflict.bound);
        only = unchanged v;
        cube = d.same.cube;
        shown = λ e. inl d.same.known;
        course = less-same s t (burnt f x) (work_left s f) d.same
            (work-paid f.left (length (models s.program)) (unfound s.program (used s) s.bound) s.learnt (var_count s.program + 1) (length s.entries)
            (f.left - 1) (unfound s.program (used s) s.bound) t.learnt (length t.entries) (omega (arith, d.burns.left))
            (unfound-le s.program (used s) s.bound) small);
      })

  pub closed : is_enough (board v) ≡ false → (n : Nogood) → r ≡ step.Closed n → Goes mode v v s t f g (Closed n)
  closed more n e =
      let d = at gives silent s t f g r (step.Closed n) e h path.0 path.1 in
      subst (λ (u : Units). Goes mode v v s t f u (Closed n)) (sym d.fuel) (record {
        underway = underway-same mode v s t f f is d.same (subst (λ k. k < 2 ^ 64) (sym d.learnt) is.learnt) is.ready.work;
        only = unchanged v;
        cube = d.same.cube;
        shown = λ e. inl d.same.known;
        course = (
          more,
          λ q entered.
              let own = at gives silent s t f g r (step.Closed n) e h q entered in (
                own.within,
                settled-excused (board v) s.known s.bound n.lits is.ready.work.agrees
                    (subst (λ (p : Program). Settled p (used_up (sought (board v).task.goal) p s.known) s.bound n.lits) (program-is mode v s f is.ready)
                    (subst (λ (k : Option Reasoning). Settled s.program (used_up k s.program s.known) s.bound n.lits) (sym (seeks mode v s f is.ready)) own.settled)),
              ),
        );
      })

  pub unpaid : is_enough (board v) ≡ false → (x : Clash) → r ≡ step.NoFuel x → Goes mode v v s t f g (Unpaid x)
  unpaid more x e =
      let d = at gives silent s t f g r (step.NoFuel x) e h path.0 path.1 in
      let p = program-is mode v s f is.ready in
      subst (λ (u : Units). Goes mode v v s t f u (Unpaid x)) (sym d.fuel) (record {
        underway = underway-same mode v s t f f is d.same (subst (λ k. k < 2 ^ 64) (sym d.learnt) is.learnt) is.ready.work;
        only = unchanged v;
        cube = d.same.cube;
        shown = λ e. inl d.same.known;
        course = (
          more,
          d.none,
          path.1 ∙ ap (λ (q : List Literal). Some q) (sym d.conflict.cube),
          work-met (board v) 0 mode s.known s.bound f x is.ready.work (d.conflict.program ∙ p) (d.conflict.reasoning ∙ ap reasoning_of is.ready.mode_is) d.conflict.known d.conflict.bound
              (subst (λ (q : Program). IsConflict q (used_up (reasoning_of mode) q s.known) s.bound x.cube x.decisions x.nogood) p
              (subst (λ (m : Mode). IsConflict s.program (used_up (reasoning_of m) s.program s.known) s.bound x.cube x.decisions x.nogood) is.ready.mode_is d.conflict.conflict)),
        );
      })

  -- ---- an answer
  pub is-answer : (S : Atoms) → r ≡ step.Answer S → IsTrue (is_answer v.task S)
  is-answer S e =
      let d = at gives silent s t f g r (step.Answer S) e h path.0 path.1 in
      answer-in_cube v.task path.0 S (wanted-stand v.task is.ready.task) path.2
      (subst (λ (q : Program). IsTrue (is_stable q S)) is.ready.program d.stable) (subst (λ (q : Program). IsTrue (hits (values q S) path.0)) is.ready.program d.hit)

-- It costs less than the bound, if there is one.
not-dear : (p : Program) (c : Option (List ℤ)) (S : Atoms) → IsSmaller (cost p S) c → costs_bound p c S ≡ false
not-dear p None S less = refl
not-dear p (Some d) S less = ap not less

-- so it may be recorded
pub may-record : (mode : Mode) (t : Task) (bound : Option (List ℤ)) (S : Atoms) → IsSought mode bound t.goal → IsSmaller (cost t.program S) bound → MayRecord mode t S
may-record Enum t bound S e less = may-list t bound S e (not-dear t.program bound S less)
may-record Opt t bound S e less = may-optimise t e
may-record (Consequences r) t bound S e less = may-tell t r bound S e

pub answer-may : (gives : Nogood → Type 0) (silent : List (Option Bool) → Type 0) (mode : Mode) (v : Booked) (s t : Searching) (f g : Units)
    (is : IsUnderway mode v s f) (r : Step) → IsStep gives silent s t f g r → (S : Atoms) → r ≡ step.Answer S → MayRecord mode v.task S
answer-may gives silent mode v s t f g is r h S e =
    let path = entered-by v.task s.cube is.entered in
    let d = at gives silent s t f g r (step.Answer S) e h path.0 path.1 in
    may-record mode v.task s.bound S (subst (λ (x : Task). IsSought mode s.bound x.goal) (board-task v) is.ready.work.goal)
    (subst (λ (p : Program). IsSmaller (cost p S) s.bound) is.ready.program d.cheaper)

-- the search and its units after the answer was recorded
pub work-recorded : (mode : Mode) (b c : Board) (s t : Searching) (q : List Literal) (f : Units) (S : Atoms) → s.program ≡ b.task.program →
    IsAtWork b 0 mode s.known s.bound f → list_any (same_set S) (used_up (reasoning_of mode) s.program s.known) ≡ false → Records mode s t q S →
    IsRecorded mode b c S →
    IsAtWork c 0 mode t.known t.bound f
work-recorded Enum b c s t q f S p at new r done =
    subst (λ (k : List Atoms). IsAtWork c 0 Enum k t.bound f) (sym r.0) (subst (λ (o : Option (List ℤ)). IsAtWork c 0 Enum (s.known ++ S ∷ []) o f) (sym r.1)
    (subst (λ (x : Board). IsAtWork x 0 Enum (s.known ++ S ∷ []) s.bound f) (sym done.1) (work-delivered b 0 S s.known s.bound f at done.0 new)))
work-recorded (Consequences k) b c s t q f S p at new r done =
    subst (λ (K : List Atoms). IsAtWork c 0 (Consequences k) K t.bound f) (sym (r.0 ∙ ap (λ (x : Program). common_sets k x (s.known ++ S ∷ [])) p))
    (subst (λ (o : Option (List ℤ)). IsAtWork c 0 (Consequences k) (common_sets k b.task.program (s.known ++ S ∷ [])) o f) (sym r.1)
    (subst (λ (x : Board). IsAtWork x 0 (Consequences k) (common_sets k b.task.program (s.known ++ S ∷ [])) s.bound f) (sym done.1) (work-told b 0 S k s.known s.bound f at done.0)))
work-recorded Opt b c s t q f S p at new r (inl done) =
    subst (λ (k : List Atoms). IsAtWork c 0 Opt k t.bound f) (sym r.0) (subst (λ (o : Option (List ℤ)). IsAtWork c 0 Opt s.known o f) (sym (r.1 ∙ ap (λ (x : Program). Some (cost x S)) p))
    (subst (λ (x : Board). IsAtWork x 0 Opt s.known (Some (cost b.task.program S)) f) (sym done.1) (work-improved b 0 S s.known s.bound f at done.0)))
work-recorded Opt b c s t q f S p at new r (inr done) =
    subst (λ (k : List Atoms). IsAtWork c 0 Opt k t.bound f) (sym r.0) (subst (λ (o : Option (List ℤ)). IsAtWork c 0 Opt s.known o f) (sym (r.1 ∙ ap (λ (x : Program). Some (cost x S)) p))
    (subst (λ (x : Board). IsAtWork x 0 Opt s.known (Some (cost b.task.program S)) f) (sym done.0) (work-unimproved b 0 S done.1.best s.known s.bound f at done.1.stands done.1.dearer)))

-- fewer models are left to be found
pub fewer-by : (mode : Mode) (s t : Searching) (q : List Literal) (S : Atoms) → IsTrue (is_stable s.program S) →
    list_any (same_set S) (used_up (reasoning_of mode) s.program s.known) ≡ false → IsSmaller (cost s.program S) s.bound → Records mode s t q S →
    unfound s.program (used_up (reasoning_of mode) s.program t.known) t.bound < unfound s.program (used_up (reasoning_of mode) s.program s.known) s.bound
fewer-by Enum s t q S stable new less r =
    subst (λ (b : Option (List ℤ)). unfound s.program t.known b < unfound s.program s.known s.bound) (sym r.1)
    (subst (λ (k : List Atoms). unfound s.program k s.bound < unfound s.program s.known s.bound) (sym r.0) (fewer-push s.program s.known s.bound S stable new less))
fewer-by (Consequences k) s t q S stable new less r =
    subst (λ (b : Option (List ℤ)). unfound s.program (used_up (Some k) s.program t.known) b < unfound s.program (used_up (Some k) s.program s.known) s.bound) (sym r.1)
    (fewer-told s.program k s.known t.known s.bound S stable new less r.0)
fewer-by Opt s t q S stable new less r =
    subst (λ (b : Option (List ℤ)). unfound s.program t.known b < unfound s.program s.known s.bound) (sym r.1)
    (subst (λ (k : List Atoms). unfound s.program k (Some (cost s.program S)) < unfound s.program s.known s.bound) (sym r.0) (fewer-lower s.program s.known s.bound S stable new less))

-- the same, by the searches' own modes
pub fewer-used : (mode : Mode) (s t : Searching) → s.mode ≡ mode → t.mode ≡ s.mode →
    unfound s.program (used_up (reasoning_of mode) s.program t.known) t.bound < unfound s.program (used_up (reasoning_of mode) s.program s.known)
    s.bound →
    unfound s.program (used_up (reasoning_of t.mode) s.program t.known) t.bound < unfound s.program (used s) s.bound
fewer-used mode s t is same h =
    subst (λ (m : Mode). unfound s.program (used_up (reasoning_of m) s.program t.known) t.bound < unfound s.program (used s) s.bound) (sym (same ∙ is))
    (subst (λ (m : Mode). unfound s.program (used_up (reasoning_of mode) s.program t.known) t.bound < unfound s.program (used_up (reasoning_of m) s.program s.known) s.bound) (sym is) h)

-- An answer was recorded, and nothing was taken over yet.
pub record IsAnswered (mode : Mode) (v w : Booked) (s t : Searching) (f g : Units) : Type 0 where
  pub underway : IsUnderway mode w t g
  pub only : OnlyRecords v w
  pub cube : t.cube ≡ s.cube
  pub left : work_left t g < work_left s f

pub answered : (gives : Nogood → Type 0) (silent : List (Option Bool) → Type 0) (mode : Mode) (v w : Booked) (s t : Searching) (f g : Units)
    (is : IsUnderway mode v s f) (r : Step) (h : IsStep gives silent s t f g r) (S : Atoms) → r ≡ step.Answer S →
    OnlyRecords v w → IsRecorded mode (board v) (board w) S → IsAnswered mode v w s t f g
answered gives silent mode v w s t f g is r h S e only done =
    let path = entered-by v.task s.cube is.entered in
    let d = at gives silent s t f g r (step.Answer S) e h path.0 path.1 in
    let records = subst (λ (m : Mode). Records m s t path.0 S) is.ready.mode_is d.records in
    let small : t.learnt < 2 ^ 64 = subst (λ k. k < 2 ^ 64) (sym d.learnt) is.learnt in
    let new : list_any (same_set S) (used_up (reasoning_of mode) s.program s.known) ≡ false =
    ap (λ (m : Mode). list_any (same_set S) (used_up (reasoning_of m) s.program s.known)) (sym is.ready.mode_is) ∙ d.new in
    subst (λ (u : Units). IsAnswered mode v w s t f u) (sym d.fuel) (record {
      underway = record {
        ready = record {
          task = subst QueryStands (sym only.task) is.ready.task;
          program = d.program ∙ is.ready.program ∙ ap (λ (x : Task). x.program) (sym only.task);
          mode_is = d.mode ∙ is.ready.mode_is;
          work = work-recorded mode (board v) (board w) s t path.0 f S (program-is mode v s f is.ready) is.ready.work new records done;
        };
        entered = subst (λ (x : Task). IsEntered x t.cube) (sym only.task) (subst (IsEntered v.task) (sym d.cube) is.entered);
        learnt = small;
      };
      only = only;
      cube = d.cube;
      left =
          subst (λ (p : Program). work f.left (length (models p)) (unfound p (used_up (reasoning_of t.mode) p t.known) t.bound) t.learnt
          (var_count p + 1) (length t.entries) < work_left s f) (sym d.program)
          (work-found f.left (length (models s.program)) (unfound s.program (used s) s.bound) s.learnt (var_count s.program + 1) (length s.entries)
          (unfound s.program (used_up (reasoning_of t.mode) s.program t.known) t.bound) t.learnt (length t.entries)
          (fewer-used mode s t is.ready.mode_is d.mode (fewer-by mode s t path.0 S d.stable new d.cheaper records)) small);
    })

-- ---- what a step asks
some-entered : (t : Task) (o : Option (List Literal)) → IsEntered t o → IsSome o
some-entered t None h = absurd h
some-entered t (Some q) h = refl

pub may-step : (mode : Mode) (v : Booked) (s : Searching) (f : Units) → IsUnderway mode v s f → IsSome s.cube × (f.program ≡ s.program)
may-step mode v s f is = (some-entered v.task s.cube is.entered, is.ready.work.units.0.program ∙ sym (program-is mode v s f is.ready))

-- ---- steps in a row
-- what holds from v and s on
pub record IsAlong (mode : Mode) (v w : Booked) (s t : Searching) (g : Units) : Type 0 where
  pub underway : IsUnderway mode w t g
  pub only : OnlyRecords v w
  pub cube : t.cube ≡ s.cube

pub along-begins : (mode : Mode) (v : Booked) (s : Searching) (f : Units) → IsUnderway mode v s f → IsAlong mode v v s s f
along-begins mode v s f is = record { underway = is; only = unchanged v; cube = refl }

pub only-further : (u v w : Booked) → OnlyRecords u v → OnlyRecords v w → OnlyRecords u w
only-further u v w a b = record { task = b.task ∙ a.task; adds = adds-trans u v w a.adds b.adds; nodes = b.nodes ∙ a.nodes; out = b.out ∙ a.out; pool = b.pool ∙ a.pool }

pub along-on : (mode : Mode) (u v w : Booked) (r s t : Searching) (f g : Units) (how : Course) → IsAlong mode u v r s f → Goes mode v w s t f g how → IsAlong mode u w r t g
along-on mode u v w r s t f g how a go = record { underway = go.underway; only = only-further u v w a.only go.only; cube = go.cube ∙ a.cube }

pub along-closed : (mode : Mode) (u v w : Booked) (r s t : Searching) (f g : Units) (n : Nogood) → IsAlong mode u v r s f → Goes mode v w s t f g (Closed n) → Ends mode u w r t g (left.Closed n)
along-closed mode u v w r s t f g n a go =
    let b = along-on mode u v w r s t f g (Closed n) a go in
    record { ready = b.underway.ready; only = b.only; over = (go.course.0, λ q e. go.course.1 q (a.cube ∙ e)) }

pub along-stopped : (mode : Mode) (u v w : Booked) (r s t : Searching) (f g : Units) (x : Clash) → IsAlong mode u v r s f → Goes mode v w s t f g (Unpaid x) → Ends mode u w r t g (left.Unpaid x)
along-stopped mode u v w r s t f g x a go =
    let b = along-on mode u v w r s t f g (Unpaid x) a go in
    record { ready = b.underway.ready; only = b.only; over = (go.course.0, go.course.1, (sym a.cube ∙ go.course.2), go.course.3) }

pub along-enough : (mode : Mode) (u w : Booked) (r t : Searching) (g : Units) → IsAlong mode u w r t g → is_enough (board w) ≡ true → Ends mode u w r t g left.Enough
along-enough mode u w r t g a enough = record { ready = a.underway.ready; only = a.only; over = enough }

-- ---- the path begins
pub cube-entered : (s t : Searching) (q : List Literal) → Enters s t q → t.cube ≡ Some q
cube-entered s t q e = ap (λ (x : Searching). x.cube) e.same
