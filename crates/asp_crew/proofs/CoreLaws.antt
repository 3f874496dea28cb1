-- The core in a report.
use Rattle.std.proofs.Common.{◌≡◌, ℕ, Bool, true, false, ◌&&◌, List, [], ◌∷◌, ◌++◌, append-nil, fold, is_none, not, Option, Some, None, refl, sym, ap, ◌∙◌, subst}
use Rattle.std.specs.Prelude.{ℤ, option_map}
use Rattle.std.specs.List.{AllByRecursion}
use Rattle.std.specs.Ordering.{match_ordering}
use Rattle.std.specs.declared.cmp.Ordering.{Ordering}
use Rattle.std.specs.declared.cmp.Ordering.TheVariants.{Less, Equal, Greater}
use Rattle.std.proofs.lemmas.Bool.{and_parts, false≢true}
use Rattle.asp_model.specs.declared.program.Program.{Program}
use Rattle.asp_model.specs.declared.results.Ask.{Ask}
use Rattle.asp_model.specs.declared.results.Mode.{Mode}
use Rattle.asp_model.specs.declared.results.Mode.TheVariants.{Enum, Opt, Consequences}
use Rattle.asp_model.specs.declared.results.Reasoning.{Reasoning}
use Rattle.asp_model.specs.Asked.{reasoning_of}
use Rattle.asp_model.specs.Holding.{atom_of}
use Rattle.asp_model.specs.Models.{atoms_of}
use Rattle.asp_model.specs.Sets.{Atoms, has, set_cmp}
use Rattle.asp_path.specs.Trees.{all_closed}
use Rattle.asp_core.specs.declared.event.Event.{Event}
use Rattle.asp_core.specs.declared.goal.Goal.TheVariants as goal
use Rattle.asp_core.specs.declared.task.Task.{Task}
use Rattle.asp_core.specs.Boards.{Board, IsQuery, goal_of, is_enough, listed_by, sought, wanted}
use Rattle.asp_core.specs.Sorting.{sorted_once, with_set}
use Rattle.asp_core.proofs.BoardLaws.{wanted-stand}
use Rattle.asp_book.specs.Books.{Booked, board, IsJournalOf}
use Rattle.asp_unsat.specs.Cores.{HasNothing, IsCore, IsPlain, blamed_by}
use Rattle.asp_unsat.proofs.CoreLaws.{blamed-core}
use Rattle.asp_crew_laws.specs.declared.report.Report.{Report}
use Rattle.asp_crew_laws.specs.Reports.{end_by, joined, IsPlayed, IsPlayedBy, IsReport, IsToldBy}
use Rattle.asp_crew_laws.specs.Runs.{task_of, with_cost}
use Rattle.asp_crew_laws.proofs.PlayedLaws.{sought-mode}
use Rattle.asp_crew.specs.Refuting.{HasCore, HasCoreIf, is_finished, is_nothing, is_plain, is_refuted, refutes}
use Rattle.asp_crew.specs.Running.{IsRunFor}
use Rattle.asp_crew.proofs.BookLaws.{board-task}

-- ---- a board that shows that there is no answer
nothing-is : (A : List Atoms) → is_nothing A ≡ true → A ≡ []
nothing-is [] h = refl
nothing-is (S ∷ A) h = absurd (false≢true h)

none-is : {A : Type 0} (o : Option A) → is_none o ≡ true → o ≡ None
none-is None h = refl
none-is (Some x) h = absurd (false≢true h)

-- no consequences are sought then
pub plain-seeks : (mode : Mode) → is_plain mode ≡ true → reasoning_of mode ≡ None
plain-seeks Enum h = refl
plain-seeks Opt h = refl
plain-seeks (Consequences r) h = absurd (false≢true h)

plain-goal : (mode : Mode) (n : Bool) → is_plain mode ≡ true → IsPlain (goal_of mode n)
plain-goal Enum n h = tt
plain-goal Opt n h = tt
plain-goal (Consequences r) n h = absurd (false≢true h)

-- the assumptions' atoms stand in the program
pub assumptions-stand : (p : Program) → AllByRecursion (λ l. has (atoms_of p) (atom_of l) ≡ true) p.assumptions
assumptions-stand p =
    let t : Task = record { program = p; goal = goal.Enum; budget = 0; limit = 0; query = [] } in
    subst (AllByRecursion (λ l. has (atoms_of p) (atom_of l) ≡ true)) (append-nil p.assumptions) (wanted-stand t tt)

-- the parts of what it shows
pub record Shows (mode : Mode) (b : Board) : Type 0 where
  pub plain : is_plain mode ≡ true
  pub closed : all_closed b.nodes ≡ true
  pub answers : b.answers ≡ []
  pub best : b.best ≡ None

shows : (mode : Mode) (b : Board) → refutes mode b ≡ true → Shows mode b
shows mode b h =
    let three = and_parts (is_plain mode && not (is_enough b) && all_closed b.nodes) (is_nothing b.answers && is_none b.best) h in
    let two = and_parts (is_plain mode && not (is_enough b)) (all_closed b.nodes) three.0 in
    let one = and_parts (is_plain mode) (not (is_enough b)) two.0 in
    let last = and_parts (is_nothing b.answers) (is_none b.best) three.1 in
    record { plain = one.0; closed = two.1; answers = nothing-is b.answers last.0; best = none-is b.best last.1 }

-- what the run's board seeks
pub run-seeks : (ask : Ask) (v : Booked) → IsRunFor ask v.task → sought (board v).task.goal ≡ reasoning_of ask.mode
run-seeks ask v run = ap (λ (t : Task). sought t.goal) (board-task v ∙ run) ∙ sought-mode ask.mode ask.by_name

-- its assumptions that are blamed are a core
pub refuted-core : (ask : Ask) (v : Booked) (p : Program) → IsRunFor ask v.task → v.task.program ≡ p → IsJournalOf v.task v.journal →
    refutes ask.mode (board v) ≡ true → IsCore p p.assumptions (blamed_by p (board v).reasons p.assumptions)
refuted-core ask v p run same lawful h =
    let s = shows ask.mode (board v) h in
    let none : v.task.query ≡ [] = ap (λ (t : Task). t.query) run in
    let seeks : (board v).task.goal ≡ goal_of ask.mode ask.by_name = ap (λ (t : Task). t.goal) (board-task v) ∙ ap (λ (t : Task). t.goal) run in
    let nothing : HasNothing (board v) = record { plain = subst IsPlain (sym seeks) (plain-goal ask.mode ask.by_name s.plain); answers = s.answers; best = s.best } in
    let core : IsCore v.task.program (wanted v.task) (blamed_by (board v).task.program (board v).reasons (wanted (board v).task)) =
    blamed-core v.task v.journal (subst (IsQuery v.task.program) (sym none) tt) lawful s.closed nothing in
    let there : IsCore v.task.program (wanted v.task) (blamed_by v.task.program (board v).reasons (wanted v.task)) =
    subst (λ (t : Task). IsCore v.task.program (wanted v.task) (blamed_by t.program (board v).reasons (wanted t))) (board-task v) core in
    let alone : wanted v.task ≡ v.task.program.assumptions = ap (λ (q : List ℤ). v.task.program.assumptions ++ q) none ∙ append-nil v.task.program.assumptions in
    subst (λ (q : Program). IsCore q q.assumptions (blamed_by q (board v).reasons q.assumptions)) same
    (subst (λ (ls : List ℤ). IsCore v.task.program ls (blamed_by v.task.program (board v).reasons ls)) alone there)

pub core-if : (ask : Ask) (v : Booked) (p : Program) (b : Bool) (core : List ℤ) → IsRunFor ask v.task → v.task.program ≡ p →
    IsJournalOf v.task v.journal → b ≡ refutes ask.mode (board v) → b ≡ true → core ≡ blamed_by p (board v).reasons p.assumptions →
    HasCoreIf (refutes ask.mode (board v)) p (Some core)
core-if ask v p b core run same lawful is shown blamed =
    subst (λ (x : Bool). HasCoreIf x p (Some core)) (sym (sym is ∙ shown))
    (subst (IsCore p p.assumptions) (sym blamed) (refuted-core ask v p run same lawful (sym is ∙ shown)))

pub core-none : (mode : Mode) (b : Board) (p : Program) (x : Bool) → x ≡ refutes mode b → x ≡ false → HasCoreIf (refutes mode b) p None
core-none mode b p x is hidden = subst (λ (y : Bool). HasCoreIf y p None) (sym (sym is ∙ hidden)) tt

-- ---- what a report tells of such a board
with_set-some : (S : Atoms) (L : List Atoms) → is_nothing (with_set S L) ≡ false
with_set-some S [] = refl
with_set-some S (T ∷ L) = at (set_cmp S T)
  where
    at : (o : Ordering) → is_nothing (match_ordering o (S ∷ T ∷ L) (T ∷ L) (T ∷ with_set S L)) ≡ false
    at Less = refl
    at Equal = refl
    at Greater = refl

fold-some : (L A : List Atoms) → is_nothing L ≡ false → is_nothing (fold (λ (Ts : List Atoms) (S : Atoms). with_set S Ts) L A) ≡ false
fold-some L [] h = h
fold-some L (S ∷ A) h = fold-some (with_set S L) A (with_set-some S L)

pub once-nothing : (A : List Atoms) → is_nothing (sorted_once A) ≡ is_nothing A
once-nothing [] = refl
once-nothing (S ∷ A) = fold-some (with_set S []) A refl

none-map : {A B : Type 0} (f : A → B) (o : Option A) → is_none (option_map f o) ≡ is_none o
none-map f None = refl
none-map f (Some x) = refl

finished-by : (enough closed : Bool) → is_finished (end_by enough closed) ≡ (not enough && closed)
finished-by true closed = refl
finished-by false true = refl
finished-by false false = refl

regroup : (a b c d : Bool) → (a && (b && c) && d) ≡ (a && b && c && d)
regroup false b c d = refl
regroup true false c d = refl
regroup true true c d = refl

plain-listed : (mode : Mode) (A : List Atoms) → (is_plain mode && is_nothing (sorted_once (listed_by (reasoning_of mode) A))) ≡ (is_plain mode && is_nothing A)
plain-listed Enum A = once-nothing A
plain-listed Opt A = once-nothing A
plain-listed (Consequences r) A = refl

swap : (a b c d x : Bool) → (a && c) ≡ (a && x) → (a && b && (c && d)) ≡ (a && b && (x && d))
swap false b c d x e = refl
swap true false c d x e = refl
swap true true c d x e = ap (λ (y : Bool). y && d) e

pub refuted-told : (mode : Mode) (b : Board) (r : Report) → r.results.mode ≡ mode → sought b.task.goal ≡ reasoning_of mode → IsToldBy b r → is_refuted r.results ≡ refutes mode b
refuted-told mode b r is seeks told =
    let listed : List Atoms = sorted_once (listed_by (reasoning_of mode) b.answers) in
    ap (λ (m : Mode). is_plain m && is_finished r.results.end && (is_nothing r.results.answers && is_none r.results.best)) is
    ∙ ap (λ (A : List Atoms). is_plain mode && is_finished r.results.end && (is_nothing A && is_none r.results.best))
    (told.answers ∙ ap (λ (k : Option Reasoning). sorted_once (listed_by k b.answers)) seeks)
    ∙ ap (λ (x : Bool). is_plain mode && is_finished r.results.end && (is_nothing listed && x)) (ap is_none told.best ∙ none-map (with_cost b.task.program) b.best)
    ∙ swap (is_plain mode) (is_finished r.results.end) (is_nothing listed) (is_none b.best) (is_nothing b.answers) (plain-listed mode b.answers)
    ∙ ap (λ (x : Bool). is_plain mode && x && (is_nothing b.answers && is_none b.best)) (ap is_finished told.end ∙ finished-by (is_enough b) (all_closed b.nodes))
    ∙ regroup (is_plain mode) (not (is_enough b)) (all_closed b.nodes) (is_nothing b.answers && is_none b.best)

-- ---- what a report of one search says of the program doesn't rest on its core
played_beside : (t : Task) (r : Report) (o : Option (List ℤ)) → IsPlayed t r → IsPlayed t (record r { core = o })
played_beside t r o is = record {
  lawful = is.lawful;
  answers = is.answers;
  best = is.best;
  common = is.common;
  end = is.end;
  leaves = is.leaves;
  spent = is.spent;
  home = is.home;
  paid = is.paid;
  ends = is.ends;
}

pub beside-core : (p : Program) (ask : Ask) (units : ℕ) (r : Report) (o : Option (List ℤ)) → r.second ≡ None → IsReport p ask units r → IsReport p ask units (record r { core = o })
beside-core p ask units r o alone is = record {
  mode_is = is.mode_is;
  says = is.says;
  program = is.program;
  spent = is.spent;
  budget = is.budget;
  reasoned = is.reasoned;
  known = is.known;
  untold = is.untold;
  least = is.least;
  played = subst (λ (x : Option (List Event)). IsPlayedBy x p ask units (record r { core = o })) (sym alone)
      (played_beside (task_of p ask units) r o (subst (λ (x : Option (List Event)). IsPlayedBy x p ask units r) alone is.played));
}

-- a report of two searches has none, since the first found a best
and-false : (x y : Bool) → (x && (y && false)) ≡ false
and-false false y = refl
and-false true true = refl
and-false true false = refl

pub joined-core : (p : Program) (first ties : Report) (best : Atoms × List ℤ) → first.results.best ≡ Some best → HasCore p (joined first ties)
joined-core p first ties best found =
    let none : is_refuted (joined first ties).results ≡ false =
    ap (λ (o : Option (Atoms × List ℤ)). is_plain first.results.mode && is_finished ties.results.end && (is_nothing ties.results.answers && is_none o)) found
    ∙ and-false (is_plain first.results.mode && is_finished ties.results.end) (is_nothing ties.results.answers) in
    subst (λ (x : Bool). HasCoreIf x p None) (sym none) tt

-- the report of a board with the core that was told of it
pub told-core : (p : Program) (mode : Mode) (b : Board) (r s : Report) (o : Option (List ℤ)) → s ≡ record r { core = o } → r.results.mode ≡ mode →
    sought b.task.goal ≡ reasoning_of mode → IsToldBy b r → HasCoreIf (refutes mode b) p o → HasCore p s
told-core p mode b r s o same is seeks told has = subst (HasCore p) (sym same) (subst (λ (x : Bool). HasCoreIf x p o) (sym (refuted-told mode b r is seeks told)) has)
