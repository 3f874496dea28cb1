-- The wanted literals that stand in nogoods for which leaves were closed are a core.
use Rattle.std.proofs.Common.{◌≡◌, ℕ, ◌<◌, Bool, true, false, ◌||◌, List, [], ◌∷◌, ◌++◌, length, drop, take, map, filter, Option, None, refl, sym, ap, subst, ◌∙◌, arith}
use Rattle.std.specs.Prelude.{ℤ, ◌==◌, if◌then◌else◌}
use Rattle.std.specs.Bool.{beq}
use Rattle.std.specs.Ordering.{int_eq}
use Rattle.std.specs.List.{list_any, AllByRecursion}
use Rattle.std.proofs.lemmas.Bool.{and_parts, and_from, eq-eqb, eqb-true, false≢true, false_from_ne_true, or_left, or_right}
use Rattle.std.proofs.lemmas.List.{length-map, take-append-drop}
use Rattle.std.proofs.Math.Seq.{take-append_seam}
use Rattle.asp_model.specs.declared.program.Program.{Program}
use Rattle.asp_model.specs.Consequences.{used_up}
use Rattle.asp_model.specs.Holding.{all_hold, atom_of}
use Rattle.asp_model.specs.Models.{atoms_of, is_stable}
use Rattle.asp_model.specs.Sets.{Atoms, has}
use Rattle.asp_vars.specs.Conflicts.{has_all}
use Rattle.asp_vars.specs.Entailment.{is_done}
use Rattle.asp_vars.specs.Literals.{Literal, has_literal, hits, is_true, literal_eq}
use Rattle.asp_vars.specs.Numbering.{literal_of, values}
use Rattle.asp_vars.proofs.CompletionLaws.{hits-literals}
use Rattle.asp_vars.proofs.LiteralLaws.{hits-has, same_literal}
use Rattle.asp_path.specs.Trees.{all_closed, cube_of, is_leaf, status_of}
use Rattle.asp_core.specs.declared.event.Event.{Event}
use Rattle.asp_core.specs.declared.goal.Goal.{Goal}
use Rattle.asp_core.specs.declared.goal.Goal.TheVariants as goal
use Rattle.asp_core.specs.declared.reason.Reason.{Reason}
use Rattle.asp_core.specs.declared.task.Task.{Task}
use Rattle.asp_core.specs.Boards.{Board, IsQuery, bound_by, is_excused, showing, sought, start, wanted}
use Rattle.asp_core.specs.Events.{IsLawful, replay}
use Rattle.asp_core.specs.Invariant.{IsBoard, IsReason}
use Rattle.asp_core.proofs.BoardLaws.{IsBoard-start, wanted-stand}
use Rattle.asp_core.proofs.CubeLaws.{cube-at}
use Rattle.asp_core.proofs.ResultLaws.{IsBoard-replay, task-run}
use Rattle.asp_path.proofs.TreeLaws.{leaf-within}
use Rattle.asp_unsat.specs.Cores.{HasNothing, IsCore, IsPlain, blamed, blamed_by, is_blamed, is_listed}
use Rattle.asp_unsat.proofs.WayLaws.{hit-leaf, ways-replay}

-- ---- literals of lists
either_has : (P : Type 0) (a b : Bool) → (a || b) ≡ true → (a ≡ true → P) → (b ≡ true → P) → P
either_has P true b h one other = one refl
either_has P false b h one other = other h

has-append : (xs ys : List Literal) (l : Literal) → has_literal (xs ++ ys) l ≡ true → (P : Type 0) → (has_literal xs l ≡ true → P) → (has_literal ys l ≡ true → P) → P
has-append [] ys l h P one other = other h
has-append (x ∷ xs) ys l h P one other =
    either_has P (literal_eq x l) (has_literal (xs ++ ys) l) h
    (λ e. one (or_left (literal_eq x l) (has_literal xs l) e))
    (λ e. has-append xs ys l e P (λ k. one (or_right (literal_eq x l) (has_literal xs l) k)) other)

beq-refl : (b : Bool) → beq b b ≡ true
beq-refl true = refl
beq-refl false = refl

literal-refl : (l : Literal) → literal_eq l l ≡ true
literal-refl l = and_from (l.var == l.var) (beq l.truth l.truth) (eq-eqb l.var l.var refl) (beq-refl l.truth)

-- a list is hit whose literals all are
all-hit : (v : List Bool) (n : List Literal) → ((l : Literal) → has_literal n l ≡ true → is_true v l ≡ true) → hits v n ≡ true
all-hit v [] each = refl
all-hit v (l ∷ n) each =
    and_from (is_true v l) (hits v n) (each l (or_left (literal_eq l l) (has_literal n l) (literal-refl l)))
    (all-hit v n (λ k h. each k (or_right (literal_eq l k) (has_literal n k) h)))

all-has : (c n : List Literal) (l : Literal) → has_all c n ≡ true → has_literal n l ≡ true → has_literal c l ≡ true
all-has c (m ∷ n) l h e =
    let parts = and_parts (has_literal c m) (has_all c n) h in
    either_has (has_literal c l ≡ true) (literal_eq m l) (has_literal n l) e
    (λ same. subst (λ (x : Literal). has_literal c x ≡ true) (same_literal m l same) parts.0)
    (λ k. all-has c n l parts.1 k)
all-has c [] l h e = absurd (false≢true e)

-- ---- the literals that are blamed
-- a literal of the root that is blamed is one of those
blamed-has : (p : Program) (reasons : List Reason) (literals : List ℤ) (l : Literal) → is_blamed reasons l ≡ true →
    has_literal (map (literal_of p) literals) l ≡ true → has_literal (map (literal_of p) (blamed_by p reasons literals)) l ≡ true
blamed-has p reasons (x ∷ literals) l h e =
    (elim (is_blamed reasons (literal_of p x)) as (λ b. is_blamed reasons (literal_of p x) ≡ b →
    has_literal (map (literal_of p) (if b then x ∷ blamed_by p reasons literals else blamed_by p reasons literals)) l ≡ true) [
      | true ↦ λ q. either_has _ (literal_eq (literal_of p x) l) (has_literal (map (literal_of p) literals) l) e
          (λ same. or_left (literal_eq (literal_of p x) l) _ same)
          (λ k. or_right (literal_eq (literal_of p x) l) _ (blamed-has p reasons literals l h k))
      | false ↦ λ q. either_has _ (literal_eq (literal_of p x) l) (has_literal (map (literal_of p) literals) l) e
          (λ same. absurd (false≢true (sym q ∙ ap (is_blamed reasons) (same_literal (literal_of p x) l same) ∙ h)))
          (λ k. blamed-has p reasons literals l h k)
    ]) refl
blamed-has p reasons [] l h e = absurd (false≢true e)

listed-filter : (f : ℤ → Bool) (xs : List ℤ) (l : ℤ) → is_listed (filter f xs) l ≡ true → is_listed xs l ≡ true
listed-filter f [] l h = h
listed-filter f (x ∷ xs) l h = (elim (f x) as (λ b. is_listed (if b then x ∷ filter f xs else filter f xs) l ≡ true → (int_eq x l || is_listed xs l) ≡ true) [
  | true ↦ λ k. either_has _ (int_eq x l) (is_listed (filter f xs) l) k
      (λ e. or_left (int_eq x l) (is_listed xs l) e)
      (λ e. or_right (int_eq x l) (is_listed xs l) (listed-filter f xs l e))
  | false ↦ λ k. or_right (int_eq x l) (is_listed xs l) (listed-filter f xs l k)
]) h

all-filter : {A : Type 0} (P : A → Type 0) (f : A → Bool) (xs : List A) → AllByRecursion P xs → AllByRecursion P (filter f xs)
all-filter P f [] h = tt
all-filter P f (x ∷ xs) h = (elim (f x) as (λ b. AllByRecursion P (if b then x ∷ filter f xs else filter f xs)) [
  | true ↦ (h.0, all-filter P f xs h.1)
  | false ↦ all-filter P f xs h.1
])

-- ---- a nogood for which a hit leaf was closed
-- the literals of the root that are blamed hold, and so does the way: the nogood is hit
nogood-hit : (v : List Bool) (cube root nogood : List Literal) (k : ℕ) → has_all cube nogood ≡ true → take k cube ≡ root → hits v (drop k cube) ≡ true
    → ((l : Literal) → has_literal root l ≡ true → has_literal nogood l ≡ true → is_true v l ≡ true) → hits v nogood ≡ true
nogood-hit v cube root nogood k within begins hit blame =
    all-hit v nogood (λ l h.
    let there : has_literal (take k cube ++ drop k cube) l ≡ true = ap (λ (c : List Literal). has_literal c l) (take-append-drop k cube) ∙ all-has cube nogood l within h in
    has-append (take k cube) (drop k cube) l there (is_true v l ≡ true)
    (λ e. blame l (ap (λ (c : List Literal). has_literal c l) (sym begins) ∙ e) h)
    (λ e. hits-has v (drop k cube) l hit e))

-- what follows from the nogood of some leaf's reason
from_reason : (b : Board) (P : Type 0) (leaf : ℕ) (part : List Reason) → AllByRecursion (IsReason b) part → list_any (λ r. r.leaf == leaf) part ≡ true
    → ((l : Literal) → is_blamed part l ≡ true → is_blamed b.reasons l ≡ true)
    → ((r : Reason) → r.leaf ≡ leaf → IsReason b r → ((l : Literal) → has_literal r.nogood l ≡ true → is_blamed b.reasons l ≡ true) → P) → P
from_reason b P leaf [] each any sub go = absurd (false≢true any)
from_reason b P leaf (r ∷ part) each any sub go =
    either_has P (r.leaf == leaf) (list_any (λ r. r.leaf == leaf) part) any
    (λ e. go r (eqb-true r.leaf leaf e) each.0 (λ l h. sub l (or_left (has_literal r.nogood l) (is_blamed part l) h)))
    (λ e. from_reason b P leaf part each.1 e (λ l h. sub l (or_right (has_literal r.nogood l) (is_blamed part l) h)) go)

-- ---- nothing excuses a set
abbrev excused_of : Program → Goal → List Atoms → Option Atoms → Atoms → Bool
excused_of p g A best S = is_done p (used_up (sought g) p (showing g p A)) (bound_by g p best) S

nothing-done : (p : Program) (g : Goal) (S : Atoms) → IsPlain g → excused_of p g [] None S ≡ false
nothing-done p goal.Enum S plain = refl
nothing-done p goal.Opt S plain = refl
nothing-done p (goal.Ties c) S plain = absurd plain
nothing-done p (goal.Consequences r n) S plain = absurd plain

nothing-excused : (b : Board) (S : Atoms) → HasNothing b → is_excused b S ≡ false
nothing-excused b S h =
    ap (λ (A : List Atoms). excused_of b.task.program b.task.goal A b.best S) h.answers
    ∙ ap (λ (o : Option Atoms). excused_of b.task.program b.task.goal [] o S) h.best
    ∙ nothing-done b.task.program b.task.goal S h.plain

-- ---- the core
module _ (b : Board) (is : IsBoard b) (nothing : HasNothing b) (stand : AllByRecursion (λ l. has (atoms_of b.task.program) (atom_of l) ≡ true) (wanted b.task)) where
  abbrev p : Program
  p = b.task.program

  abbrev rooted : List Literal
  rooted = map (literal_of p) (wanted b.task)

  core-hit : (S : Atoms) → all_hold S (blamed b) ≡ true → (l : Literal) → has_literal rooted l ≡ true → is_blamed b.reasons l ≡ true → is_true (values p S) l ≡ true
  core-hit S holds l root blame =
      let hit : hits (values p S) (map (literal_of p) (blamed b)) ≡ true =
      hits-literals p S (blamed b) (all-filter (λ l. has (atoms_of p) (atom_of l) ≡ true) (λ l. is_blamed b.reasons (literal_of p l))
      (wanted b.task) stand) ∙ holds in
      hits-has (values p S) (map (literal_of p) (blamed b)) l hit (blamed-has p b.reasons (wanted b.task) l blame root)

  -- a stable model that has the core is excused
  core-excused : (S : Atoms) (leaf : ℕ) → is_stable p S ≡ true → all_hold S (blamed b) ≡ true →
      take (length (wanted b.task)) (cube_of b.nodes leaf) ≡ rooted → hits (values p S) (drop (length (wanted b.task)) (cube_of b.nodes leaf)) ≡ true
      → list_any (λ r. r.leaf == leaf) b.reasons ≡ true → is_excused b S ≡ true
  core-excused S leaf stable holds begins hit any =
      from_reason b (is_excused b S ≡ true) leaf b.reasons is.explained any (λ l h. h)
      (λ r same reason blames.
      let within : has_all (cube_of b.nodes leaf) r.nogood ≡ true = subst (λ (n : ℕ). has_all (cube_of b.nodes n) r.nogood ≡ true) same reason.within in
      reason.settled.excused S stable (nogood-hit (values p S) (cube_of b.nodes leaf) rooted r.nogood (length (wanted b.task)) within begins hit (λ l root h. core-hit S holds l root (blames l h))))

begins-there : (b : Board) (leaf : ℕ) → IsBoard b → leaf < length b.nodes → take (length (wanted b.task)) (cube_of b.nodes leaf) ≡ map (literal_of b.task.program) (wanted b.task)
begins-there b leaf is lt =
    let c = cube-at b.task b.nodes leaf lt is.cubes in
    let xs = map (literal_of b.task.program) (wanted b.task) in
    let len : length (wanted b.task) ≡ length xs = sym (length-map (wanted b.task) (literal_of b.task.program)) in
    ap (λ (k : ℕ). take k (cube_of b.nodes leaf)) len ∙ ap (take (length xs)) (sym c.begins.1) ∙ take-append_seam xs c.begins.0

core-suffices : (t : Task) (journal : List Event) → IsQuery t.program t.query → IsLawful (start t) journal → all_closed (replay t journal).nodes ≡ true → HasNothing (replay t journal)
    → (S : Atoms) → is_stable t.program S ≡ true → all_hold S (blamed (replay t journal)) ≡ true → ⊥
core-suffices t journal query lawful closed nothing S stable holds =
    let b = replay t journal in
    let is = IsBoard-replay t journal query lawful in
    let same : b.task ≡ t = task-run (start t) journal in
    let stand = subst (λ (u : Task). AllByRecursion (λ l. has (atoms_of u.program) (atom_of l) ≡ true) (wanted u)) (sym same) (wanted-stand t query) in
    let v = values b.task.program S in
    let one = ways-replay v t journal (IsBoard-start t query) lawful in
    let found = hit-leaf v (length (wanted t)) b.nodes closed (omega (arith, one)) in
    let was : is_leaf (status_of b.nodes found.leaf) ≡ true = ap is_leaf found.closed in
    let lt = leaf-within b.nodes found.leaf was in
    let k : length (wanted t) ≡ length (wanted b.task) = ap (λ (u : Task). length (wanted u)) (sym same) in
    let hit : hits v (drop (length (wanted b.task)) (cube_of b.nodes found.leaf)) ≡ true = subst (λ (n : ℕ). hits v (drop n (cube_of b.nodes found.leaf)) ≡ true) k found.hit in
    let stable_there : is_stable b.task.program S ≡ true = ap (λ (u : Task). is_stable u.program S) same ∙ stable in
    let excused = core-excused b is nothing stand S found.leaf stable_there holds (begins-there b found.leaf is lt) hit (is.complete found.leaf found.closed) in
    false≢true (sym (nothing-excused b S nothing) ∙ excused)

pub blamed-core : (t : Task) (journal : List Event) → IsQuery t.program t.query → IsLawful (start t) journal →
    all_closed (replay t journal).nodes ≡ true → HasNothing (replay t journal) → IsCore t.program (wanted t) (blamed (replay t journal))
blamed-core t journal query lawful closed nothing =
    let b = replay t journal in
    let same : b.task ≡ t = task-run (start t) journal in
    record {
      among = λ l h. subst (λ (u : Task). is_listed (wanted u) l ≡ true) same (listed-filter (λ x. is_blamed b.reasons (literal_of b.task.program x)) (wanted b.task) l h);
      suffices = λ S stable. false_from_ne_true (all_hold S (blamed b)) (λ holds. core-suffices t journal query lawful closed nothing S stable holds);
    }
