-- What the answers delivered show is taken over by the search.
use Rattle.std.proofs.Common.{◌≡◌, ℕ, ◌+◌, ◌≤◌, Bool, true, false, ltb, List, [], length, Option, Some, None, inr, refl, sym, ap, ◌∙◌, subst, arith}
use Rattle.std.specs.Prelude.{MatchBool}
use Rattle.std.proofs.lemmas.Bool.{false≢true, ltb-true}
use Rattle.asp_model.specs.declared.program.Program.{Program}
use Rattle.asp_model.specs.declared.results.Mode.{Mode}
use Rattle.asp_model.specs.declared.results.Reasoning.{Reasoning}
use Rattle.asp_model.specs.Asked.{reasoning_of}
use Rattle.asp_model.specs.Consequences.{unshown, used_up}
use Rattle.asp_model.specs.Sets.{Atoms, IsSubset}
use Rattle.asp_model.specs.Models.{models}
use Rattle.asp_model.proofs.ConsequenceLaws.{AreAmong, used-less}
use Rattle.asp_vars.specs.Knowing.{Knowing}
use Rattle.asp_vars.specs.Numbering.{var_count}
use Rattle.asp_vars.specs.Paid.{Units}
use Rattle.asp_core.specs.declared.task.Task.{Task}
use Rattle.asp_core.specs.Boards.{known_of}
use Rattle.asp_book.specs.Books.{Booked, board}
use Rattle.asp_search.specs.Beside.{Adopts, count_unshown, left_to_show, unshown_by}
use Rattle.asp_search_laws.specs.Searching.{Searching, used}
use Rattle.asp_crew_laws.proofs.KnownLaws.{MayTakeOver, known-is, may-take_over, work-known}
use Rattle.asp_crew.specs.declared.leaf.Course.TheVariants.{Open}
use Rattle.asp_crew.specs.Running.{is_fewer, unfound, work_left, Goes, IsReady, IsUnderway, ShowsAll, TakesFirst, TakesOver}
use Rattle.asp_crew.proofs.BookLaws.{board-task}
use Rattle.asp_crew.proofs.BoundLaws.{fewer-among}
use Rattle.asp_crew.proofs.StepLaws.{IsAnswered}
use Rattle.asp_crew.proofs.WorkLaws.{work-fewer}

-- ---- what a search may take over
pub record MayTake (s : Searching) (k : Knowing) : Type 0 where
  pub program : k.program ≡ s.program
  pub reasoning : Some k.reasoning ≡ reasoning_of s.mode
  pub all : IsSubset (unshown k.reasoning k.program k.sets) (unshown k.reasoning k.program s.known)

pub may-take : (mode : Mode) (v : Booked) (s : Searching) (f : Units) (k : Knowing) → IsReady mode v s f → known_of (board v) ≡ Some k → MayTake s k
may-take mode v s f k is e =
    let may : MayTakeOver (board v) mode s.known k = may-take_over (board v) 0 mode s.known s.bound f k is.work (known-is (board v) k e) in
    record { program = may.program ∙ ap (λ (t : Task). t.program) (board-task v) ∙ sym is.program; reasoning = may.reasoning ∙ ap reasoning_of (sym is.mode_is); all = may.all }

-- where fewer atoms are to be shown, an answer is known
pub fewer-some : (r : Reasoning) (p : Program) (K : List Atoms) (left : Option ℕ) → is_fewer (count_unshown r p K) left ≡ true → K ≡ [] → ⊥
fewer-some r p K left h none = false≢true (sym (ap (λ (L : List Atoms). is_fewer (count_unshown r p L) left) none) ∙ h)

fewer-itself : (o : Option ℕ) → is_fewer o o ≡ false
fewer-itself None = refl
fewer-itself (Some n) = here (ltb n n) refl
  where
    here : (x : Bool) → ltb n n ≡ x → ltb n n ≡ false
    here false e = e
    here true e = absurd (let f : ⊥ = omega (arith, ltb-true n n e) in f)

-- ---- what it is then
module _ (mode : Mode) (w : Booked) (t u : Searching) (g : Units) (k : Knowing) (is : IsUnderway mode w t g) (e : known_of (board w) ≡ Some k) (adopts : Adopts t u k.sets) where
  adopts-may : MayTake t k
  adopts-may = may-take mode w t g k is.ready e

  adopts-underway : IsUnderway mode w u g
  adopts-underway = subst (λ (x : Searching). IsUnderway mode w x g) (sym adopts.same) (record {
    ready = record { task = is.ready.task; program = is.ready.program; mode_is = is.ready.mode_is; work = work-known (board w) 0 mode t.known t.bound g k is.ready.work (known-is (board w) k e) };
    entered = is.entered;
    learnt = is.learnt;
  })

  among : (k.sets ≡ [] → ⊥) → AreAmong (used t) (used_up (reasoning_of t.mode) t.program k.sets)
  among some =
      subst (λ (q : Option Reasoning). AreAmong (used_up q t.program t.known) (used_up q t.program k.sets)) adopts-may.reasoning
      (subst (λ (p : Program). AreAmong (used_up (Some k.reasoning) p t.known) (used_up (Some k.reasoning) p k.sets)) adopts-may.program
      (used-less k.reasoning k.program t.known k.sets adopts-may.all some))

  adopts-left : (k.sets ≡ [] → ⊥) → work_left u g ≤ work_left t g
  adopts-left some =
      subst (λ (x : Searching). work_left x g ≤ work_left t g) (sym adopts.same)
      (work-fewer g.left (length (models t.program)) (unfound t.program (used t) t.bound) t.learnt (var_count t.program + 1) (length t.entries)
      (unfound t.program (used_up (reasoning_of t.mode) t.program k.sets) t.bound)
      (fewer-among t.program (used t) (used_up (reasoning_of t.mode) t.program k.sets) t.bound (among some)))

  adopts-all : ShowsAll (Some k) u
  adopts-all =
      subst (λ (x : Searching). ShowsAll (Some k) x) (sym adopts.same)
      (subst (λ (q : Option Reasoning). is_fewer (count_unshown k.reasoning k.program k.sets) (unshown_by q t.program k.sets) ≡ false) adopts-may.reasoning
      (subst (λ (p : Program). is_fewer (count_unshown k.reasoning k.program k.sets) (count_unshown k.reasoning p k.sets) ≡ false) adopts-may.program
      (fewer-itself (count_unshown k.reasoning k.program k.sets))))

-- An answer was recorded, and after the first what was delivered taken over.
pub taken : (mode : Mode) (v w : Booked) (s t u : Searching) (f g : Units) (knew : Option ℕ) → IsAnswered mode v w s t f g → knew ≡ left_to_show s →
    TakesFirst knew (known_of (board w)) t u → Goes mode v w s u f g Open
taken mode v w s t u f g knew a knows takes = first knew knows takes
  where
    same : (left_to_show s ≡ None → ShowsAll (known_of (board w)) t) → u ≡ t → Goes mode v w s u f g Open
    same shown e = subst (λ (x : Searching). Goes mode v w s x f g Open) (sym e) (record { underway = a.underway; only = a.only; cube = a.cube; course = a.left; shown = λ none. inr (shown none) })

    cases : (k : Knowing) → known_of (board w) ≡ Some k → (more : Bool) →
        is_fewer (count_unshown k.reasoning k.program k.sets) (left_to_show t) ≡ more → MatchBool more (Adopts t u k.sets) (u ≡ t) →
        Goes mode v w s u f g Open
    cases k e false q h = same (λ none. subst (λ (o : Option Knowing). ShowsAll o t) (sym e) q) h
    cases k e true q h = record {
      underway = adopts-underway mode w t u g k a.underway e h;
      only = a.only;
      cube = ap (λ (x : Searching). x.cube) h.same ∙ a.cube;
      course = omega (arith, a.left, adopts-left mode w t u g k a.underway e h (fewer-some k.reasoning k.program k.sets (left_to_show t) q));
      shown = λ none. inr (subst (λ (o : Option Knowing). ShowsAll o u) (sym e) (adopts-all mode w t u g k a.underway e h));
    }

    here : (o : Option Knowing) → known_of (board w) ≡ o → TakesOver o t u → Goes mode v w s u f g Open
    here None e h = same (λ none. subst (λ (o : Option Knowing). ShowsAll o t) (sym e) tt) h
    here (Some k) e h = cases k e (is_fewer (count_unshown k.reasoning k.program k.sets) (left_to_show t)) refl h

    first : (o : Option ℕ) → o ≡ left_to_show s → TakesFirst o (known_of (board w)) t u → Goes mode v w s u f g Open
    first None e h = here (known_of (board w)) refl h
    first (Some n) e h = same (λ none. absurd (let q : None ≡ Some n = sym none ∙ sym e in let z : ⊥ = cc in z)) h
