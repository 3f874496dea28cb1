-- Each event keeps the board's invariant.
use Rattle.std.proofs.Common.{◌≡◌, ◌⊎◌, inl, inr, ℕ, zero, suc, ◌+◌, ◌<◌, ◌≤◌, Bool, true, false, not, cond, ◌&&◌, ◌||◌, eqb, leb, List, [], ◌∷◌, ◌++◌, length, get_or, set, map, fold, Option, Some, None, refl, sym, ap, ◌∙◌, subst, arith, zero-add}
use Rattle.std.specs.Prelude.{ℤ, IsTrue, ◌==◌}
use Rattle.std.specs.List.{list_any, AllByRecursion}
use Rattle.std.proofs.lemmas.Bool.{false≢true, eqb-true, and_parts, and_from, cases_eq, or_cases, or_left, or_right, eq-eqb}
use Rattle.std.proofs.lemmas.Bool.Decides.{nat_tests}
use Rattle.std.proofs.lemmas.List.{length-append, get_or-set_same, get_or-set_other}
use Rattle.std.proofs.lemmas.List.Sums.{sum_by-set, sum_by-append}
use Rattle.std.proofs.lemmas.List.Folds.{list_any-append}
use Rattle.asp_model.specs.declared.program.Program.{Program}
use Rattle.asp_model.specs.Sets.{Atoms, has, same_set}
use Rattle.asp_model.specs.Holding.{atom_of}
use Rattle.asp_model.specs.Models.{atoms_of}
use Rattle.asp_model.specs.Costs.{cost, betters}
use Rattle.asp_vars.proofs.AssumptionLaws.{assumptions-stand}
use Rattle.asp_model.proofs.MemberLaws.{each_weaker, each-append}
use Rattle.asp_model.proofs.ConsequenceLaws.{AreAmong, used-more}
use Rattle.asp_model.specs.declared.results.Reasoning.{Reasoning}
use Rattle.asp_model.specs.Consequences.{used_up}
use Rattle.asp_vars.specs.Literals.{Literal, complement, is_true, has_literal, hits}
use Rattle.asp_vars.specs.Conflicts.{has_all}
use Rattle.asp_vars.proofs.LiteralLaws.{hits-has}
use Rattle.asp_core.specs.declared.reason.Reason.{Reason}
use Rattle.asp_core.proofs.HeldLaws.{closed-stays}
use Rattle.asp_vars.specs.Numbering.{literal_of, values}
use Rattle.asp_vars.specs.Entailment.{HitsOnly, costs, costs_bound, is_done}
use Rattle.asp_vars.proofs.ResolutionLaws.{HitsOnly-weaker, costs_within, smaller_left}
use Rattle.asp_vars.proofs.CompletionLaws.{hits-literals}
use Rattle.asp_path.specs.declared.status.Status.{Status}
use Rattle.asp_path.specs.declared.status.Status.TheVariants as status
use Rattle.asp_path.specs.Trees.{Node, is_leaf, is_held_by, nowhere, cube_of, status_of, with_status, root, split}
use Rattle.asp_path.proofs.TreeLaws.{leaf-within, leaves_hit-with_status, leaves_hit-split}
use Rattle.asp_core.specs.declared.event.Event.{Event}
use Rattle.asp_core.specs.declared.event.Event.TheVariants as event
use Rattle.asp_core.specs.declared.goal.Goal.{Goal}
use Rattle.asp_core.specs.declared.goal.Goal.TheVariants as goal
use Rattle.asp_core.specs.declared.task.Task.{Task}
use Rattle.asp_core.specs.Boards.{Board, IsQuery, wanted, is_answer, start, lists, optimises, sought, bound_by, bound_of, used, distinct, is_excused, showing_of}
use Rattle.asp_core.specs.Events.{held_by, Guard, happens}
use Rattle.asp_core.specs.Invariant.{IsCube, IsSettled, IsReason, IsBoard}
use Rattle.asp_core.proofs.AskedLaws.{showing-among}
use Rattle.asp_core.proofs.UnitLaws.{total-leased, total-returned, single-none, single-leased, single-returned}
use Rattle.asp_core.proofs.CubeLaws.{IsCube-start, IsCube-push, cube-at}

pub each-set : {X : Type 0} (P : X → Type 0) (xs : List X) (k : ℕ) (y : X) → AllByRecursion P xs → P y → AllByRecursion P (set xs k y)
each-set P [] k y h p = tt
each-set P (x ∷ xs) zero y h p = (p, h.1)
each-set P (x ∷ xs) (suc k) y h p = (h.0, each-set P xs k y h.1 p)

-- ---- the start
pub wanted-stand : (t : Task) → IsQuery t.program t.query → AllByRecursion (λ l. has (atoms_of t.program) (atom_of l) ≡ true) (wanted t)
wanted-stand t query =
    let p : Program = t.program in
    each-append (λ l. has (atoms_of p) (atom_of l) ≡ true) p.assumptions t.query (assumptions-stand p) query

pub IsBoard-start : (t : Task) → IsQuery t.program t.query → IsBoard (start t)
IsBoard-start t query =
    let p : Program = t.program in
    let cube : List Literal = map (literal_of p) (wanted t) in
    record {
      covered = λ S meets. zero-add (cond (hits (values p S) cube) 1 0) ∙ ap (λ b. let k : ℕ = cond b 1 0 in k) (hits-literals p S (wanted t) (wanted-stand t query) ∙ meets);
      delivered = tt;
      limited = λ h. omega arith;
      best = tt;
      settled = (λ e. absurd (let f : ⊥ = cc in f), tt);
      units = omega arith;
      apart = λ s. omega arith;
      single = single-none;
      explained = tt;
      complete = λ n closed. absurd (alone n closed);
      cubes = (IsCube-start t (wanted-stand t query), tt);
    }
  where
    alone : (n : ℕ) → status_of (root (map (literal_of t.program) (wanted t))) n ≡ status.Closed → ⊥
    alone zero e = cc
    alone (suc n) e = cc

-- ---- leaves
pub held-changed : (s : ℕ) (nodes : List Node) (n : ℕ) (new : Status) → n < length nodes →
    held_by s (with_status nodes n new) + cond (is_held_by s (status_of nodes n)) 1 0 ≡ held_by s nodes + cond (is_held_by s new) 1 0
held-changed s nodes n new lt = sum_by-set (λ (x : Node). cond (is_held_by s x.status) 1 0) nodes n (record { cube = cube_of nodes n; status = new }) nowhere lt

pub held-split : (s : ℕ) (nodes : List Node) (n : ℕ) (l : Literal) → n < length nodes → held_by s (split nodes n l) ≡ held_by s nodes
held-split s nodes n l lt =
    let f : Node → ℕ = λ x. cond (is_held_by s x.status) 1 0 in
    let e = sum_by-set f nodes n (record { cube = cube_of nodes n; status = status.Forked }) nowhere lt in
    let a = sum_by-append f (with_status nodes n status.Forked)
    (record { cube = cube_of nodes n ++ l ∷ []; status = status_of nodes n } ∷ record
    { cube = cube_of nodes n ++ complement l ∷ []; status = status.Open } ∷ []) in
    omega (arith, e, a)

-- ---- the nogoods of closed leaves
IsReason-more : (b c : Board) (r : Reason) → b.task.program ≡ c.task.program → ((T : Atoms) → is_excused b T ≡ true → is_excused c T ≡ true) →
    get_or c.nodes r.leaf nowhere ≡ get_or b.nodes r.leaf nowhere → IsReason b r → IsReason c r
IsReason-more b c r same more stays is =
    let Over : Program → Type 0 = λ p. HitsOnly p (is_excused c) r.nogood in
    record {
      closed = ap (λ (n : Node). n.status) stays ∙ is.closed;
      within = ap (λ (n : Node). has_all n.cube r.nogood) stays ∙ is.within;
      settled = subst Over same (HitsOnly-weaker b.task.program (is_excused b) (is_excused c) r.nogood more is.settled);
    }

explained-more : (b c : Board) → b.task.program ≡ c.task.program → ((T : Atoms) → is_excused b T ≡ true → is_excused c T ≡ true) →
    ((m : ℕ) → status_of b.nodes m ≡ status.Closed → get_or c.nodes m nowhere ≡ get_or b.nodes m nowhere) → (rs : List Reason) → AllByRecursion (IsReason b) rs → AllByRecursion (IsReason c) rs
explained-more b c same more stays rs h = each_weaker (IsReason b) (IsReason c) (λ r is. IsReason-more b c r same more (stays r.leaf is.closed) is) rs h

hits-within : (v : List Bool) (cube n : List Literal) → hits v cube ≡ true → has_all cube n ≡ true → hits v n ≡ true
hits-within v cube [] h e = refl
hits-within v cube (l ∷ n) h e =
    let parts = and_parts (has_literal cube l) (has_all cube n) e in
    and_from (is_true v l) (hits v n) (hits-has v cube l h parts.0) (hits-within v cube n h parts.1)

pub HitsOnly-within : (p : Program) (excuse : Atoms → Bool) (cube n : List Literal) → has_all cube n ≡ true → HitsOnly p excuse n → HitsOnly p excuse cube
HitsOnly-within p excuse cube n e f = record { excused = λ S stable h. f.excused S stable (hits-within (values p S) cube n h e) }

closed-set : (nodes : List Node) (n : ℕ) (x : Node) (m : ℕ) → (x.status ≡ status.Closed → ⊥) → status_of (set nodes n x) m ≡ status.Closed → status_of nodes m ≡ status.Closed
closed-set [] n x m ne e = e
closed-set (y ∷ nodes) zero x zero ne e = absurd (ne e)
closed-set (y ∷ nodes) zero x (suc m) ne e = e
closed-set (y ∷ nodes) (suc n) x zero ne e = e
closed-set (y ∷ nodes) (suc n) x (suc m) ne e = closed-set nodes n x m ne e

closed-append : (nodes : List Node) (x y : Node) (m : ℕ) → (x.status ≡ status.Closed → ⊥) → (y.status ≡ status.Closed → ⊥) →
    status_of (nodes ++ x ∷ y ∷ []) m ≡ status.Closed → status_of nodes m ≡ status.Closed
closed-append [] x y zero nx ny e = absurd (nx e)
closed-append [] x y (suc zero) nx ny e = absurd (ny e)
closed-append [] x y (suc (suc m)) nx ny e = e
closed-append (z ∷ nodes) x y zero nx ny e = e
closed-append (z ∷ nodes) x y (suc m) nx ny e = closed-append nodes x y m nx ny e

-- a leaf's new status, other than closed
IsBoard-with_status : (b : Board) (e : Event) (n : ℕ) (new : Status) → IsBoard b → Guard b e → (happens b e).nodes ≡ with_status b.nodes n new →
    is_leaf (status_of b.nodes n) ≡ true → is_leaf new ≡ true →
    (new ≡ status.Closed → ⊥) → ((s : ℕ) → held_by s (with_status b.nodes n new) ≤ 1) →
    IsBoard (record b { nodes = with_status b.nodes n new })
IsBoard-with_status b e n new is g nodes was leaf closed apart = record {
  covered = λ S meets. leaves_hit-with_status (values b.task.program S) b.nodes n new was leaf ∙ is.covered S meets;
  delivered = is.delivered;
  limited = is.limited;
  best = is.best;
  settled = each-set (IsSettled b) b.nodes n (record { cube = cube_of b.nodes n; status = new }) is.settled (λ e. absurd (closed e));
  units = is.units;
  single = is.single;
  apart = apart;
  explained = explained-more b (record b { nodes = with_status b.nodes n new }) refl (λ T h. h)
      (λ m h. ap (λ (xs : List Node). get_or xs m nowhere) (sym nodes) ∙ closed-stays b e m g h) b.reasons is.explained;
  complete = λ m h. is.complete m (closed-set b.nodes n (record { cube = cube_of b.nodes n; status = new }) m closed h);
  cubes = each-set (λ (x : Node). IsCube b.task x.cube) b.nodes n (record { cube = cube_of b.nodes n; status = new }) is.cubes (cube-at b.task b.nodes n (leaf-within b.nodes n was) is.cubes);
}

reason-there : (rs : List Reason) (n : ℕ) (r : Reason) (m : ℕ) → ((m ≡ n → ⊥) → list_any (λ x. x.leaf == m) rs ≡ true) → r.leaf ≡ n → list_any (λ x. x.leaf == m) (rs ++ r ∷ []) ≡ true
reason-there rs n r m else_there at = list_any-append (λ x. x.leaf == m) rs (r ∷ []) ∙ here (cases_eq m n)
  where
    here : (m ≡ n) ⊎ (m ≡ n → ⊥) → (list_any (λ x. x.leaf == m) rs || (eqb r.leaf m || false)) ≡ true
    here (inl e) = or_right (list_any (λ x. x.leaf == m) rs) (eqb r.leaf m || false) (or_left (eqb r.leaf m) false (eq-eqb r.leaf m (at ∙ sym e)))
    here (inr ne) = or_left (list_any (λ x. x.leaf == m) rs) (eqb r.leaf m || false) (else_there ne)

-- a leaf that nobody holds from then on
apart-less : (b : Board) (n : ℕ) (new : Status) → IsBoard b → n < length b.nodes → ((s : ℕ) → is_held_by s new ≡ false) → (s : ℕ) → held_by s (with_status b.nodes n new) ≤ 1
apart-less b n new is lt free s = omega (arith, is.apart s, held-changed s b.nodes n new lt, ap (λ x. let k : ℕ = cond x 1 0 in k) (free s))

apart-taken : (b : Board) (n s : ℕ) → IsBoard b → n < length b.nodes → status_of b.nodes n ≡ status.Open → held_by s b.nodes ≡ 0 → (t : ℕ) → held_by t (with_status b.nodes n (status.Held s)) ≤ 1
apart-taken b n s is lt was none t = here (eqb s t) refl (held-changed t b.nodes n (status.Held s) lt) (ap (is_held_by t) was)
  where
    here : (x : Bool) → x ≡ eqb s t → held_by t (with_status b.nodes n (status.Held s)) + cond (is_held_by t (status_of b.nodes n)) 1 0 ≡ held_by t b.nodes + cond (eqb s t) 1 0 →
        is_held_by t (status_of b.nodes n) ≡ false → held_by t (with_status b.nodes n (status.Held s)) ≤ 1
    here true q e z =
        let same : s ≡ t = eqb-true s t (sym q) in
        omega (arith, e, ap (λ x. let k : ℕ = cond x 1 0 in k) z, ap (λ x. let k : ℕ = cond x 1 0 in k) q, none, ap (λ k. held_by k b.nodes) same)
    here false q e z = omega (arith, e, ap (λ x. let k : ℕ = cond x 1 0 in k) z, ap (λ x. let k : ℕ = cond x 1 0 in k) q, is.apart t)

IsBoard-split : (b : Board) (n s : ℕ) (l : Literal) → IsBoard b → Guard b (event.Split s n l) → IsBoard (record b { nodes = split b.nodes n l })
IsBoard-split b n s l is g =
    let held : status_of b.nodes n ≡ status.Held s = g.0 in
    let was : is_leaf (status_of b.nodes n) ≡ true = ap is_leaf held in
    let lt : n < length b.nodes = leaf-within b.nodes n was in
    let forked : Node = record { cube = cube_of b.nodes n; status = status.Forked } in
    let first : Node = record { cube = cube_of b.nodes n ++ l ∷ []; status = status_of b.nodes n } in
    let second : Node = record { cube = cube_of b.nodes n ++ complement l ∷ []; status = status.Open } in
    record {
      covered = λ S meets. leaves_hit-split (values b.task.program S) b.nodes n l was ∙ is.covered S meets;
      delivered = is.delivered;
      limited = is.limited;
      best = is.best;
      settled =
          each-append (IsSettled b) (set b.nodes n forked) (first ∷ second ∷ [])
          (each-set (IsSettled b) b.nodes n forked is.settled (λ e. absurd (let f : ⊥ = cc in f)))
          (λ e. absurd (let g : status.Held s ≡ status.Closed = sym held ∙ e in let f : ⊥ = cc in f), (λ e. absurd (let f : ⊥ = cc in f), tt));
      units = is.units;
      single = is.single;
      apart = λ t. omega (arith, held-split t b.nodes n l lt, is.apart t);
      explained = explained-more b (record b { nodes = split b.nodes n l }) refl (λ T h. h) (λ m h. closed-stays b (event.Split s n l) m g h) b.reasons is.explained;
      complete = λ m h. is.complete m (closed-set b.nodes n forked m (λ e. let f : ⊥ = cc in f)
          (closed-append (set b.nodes n forked) first second m (λ e. let g : status.Held s ≡ status.Closed = sym held ∙ e in let f : ⊥ = cc in f)
          (λ e. let f : ⊥ = cc in f) h));
      cubes =
          let at : IsCube b.task (cube_of b.nodes n) = cube-at b.task b.nodes n lt is.cubes in
          each-append (λ (x : Node). IsCube b.task x.cube) (set b.nodes n forked) (first ∷ second ∷ [])
          (each-set (λ (x : Node). IsCube b.task x.cube) b.nodes n forked is.cubes at)
          (IsCube-push b.task (cube_of b.nodes n) l g.2 at, (IsCube-push b.task (cube_of b.nodes n) (complement l) g.2 at, tt));
    }

-- ---- what is recorded
or_more : (a b c : Bool) → (a || c) ≡ true → ((a || b) || c) ≡ true
or_more true b c h = refl
or_more false true c h = refl
or_more false false c h = h

or_right_more : (a b c : Bool) → (b ≡ true → c ≡ true) → (a || b) ≡ true → (a || c) ≡ true
or_right_more true b c h e = refl
or_right_more false b c h e = h e

pub or_none : (a b : Bool) → (a || b) ≡ false → b ≡ false
or_none true b e = absurd (false≢true (sym e))
or_none false b e = e

pub not_false : (b : Bool) → not b ≡ false → b ≡ true
not_false true e = refl
not_false false e = sym e

-- What was done is done where an answer more is known.
pub done-used : (k : Option Reasoning) (p : Program) (K L : List Atoms) (c : Option (List ℤ)) (T : Atoms) → AreAmong K L → is_done p (used_up k p K) c T ≡ true → is_done p (used_up k p L) c T ≡ true
done-used k p K L c T among h =
    elim (or_cases (list_any (same_set T) (used_up k p K)) (costs_bound p c T) h) [
      | inl e ↦ or_left (list_any (same_set T) (used_up k p L)) (costs_bound p c T) (used-more k p K L among T e)
      | inr e ↦ or_right (list_any (same_set T) (used_up k p L)) (costs_bound p c T) e
    ]

pub among-more : (K : List Atoms) (S : Atoms) → AreAmong K (K ++ S ∷ [])
among-more K S T h = list_any-append (same_set T) K (S ∷ []) ∙ or_left (list_any (same_set T) K) (list_any (same_set T) (S ∷ [])) h

pub excused-delivered : (b : Board) (S T : Atoms) → is_excused b T ≡ true → is_excused (record b { answers = b.answers ++ S ∷ [] }) T ≡ true
excused-delivered b S T h =
    done-used (sought b.task.goal) b.task.program (showing_of b) (showing_of (record b { answers = b.answers ++ S ∷ [] })) (bound_of b) T
    (showing-among b.task.goal b.task.program b.answers (b.answers ++ S ∷ []) (among-more b.answers S)) h

pub not_after : (c d : List ℤ) → betters d c ≡ true → betters c d ≡ false
not_after c d e = subst (λ x. betters c (cond x d c) ≡ false) e (smaller_left c d)

pub done-improved : (m : Goal) (p : Program) (K : List Atoms) (best : Option Atoms) (S T : Atoms) → optimises m ≡ true → is_done p K (bound_by m p best) S ≡ false →
    is_done p K (bound_by m p best) T ≡ true → is_done p K (bound_by m p (Some S)) T ≡ true
done-improved goal.Enum p K best S T o less h = absurd (false≢true o)
done-improved (goal.Ties c) p K best S T o less h = absurd (false≢true o)
done-improved (goal.Consequences r n) p K best S T o less h = absurd (false≢true o)
done-improved goal.Opt p K None S T o less h = or_right_more (list_any (same_set T) K) false (costs p (cost p S) T) (λ e. absurd (false≢true e)) h
done-improved goal.Opt p K (Some B) S T o less h =
    let betters_it : betters (cost p S) (cost p B) ≡ true = not_false (betters (cost p S) (cost p B)) (or_none (list_any (same_set S) K) (costs p (cost p B) S) less) in
    or_right_more (list_any (same_set T) K) (costs p (cost p B) T) (costs p (cost p S) T) (costs_within p T (cost p B) (cost p S) (not_after (cost p B) (cost p S) betters_it)) h

settled-more : (b c : Board) → b.task.program ≡ c.task.program → ((T : Atoms) → is_excused b T ≡ true → is_excused c T ≡ true) → (nodes : List Node) →
    AllByRecursion (IsSettled b) nodes → AllByRecursion (IsSettled c) nodes
settled-more b c same more nodes h =
    each_weaker (IsSettled b) (IsSettled c) (λ n settled closed. let Over : Program → Type 0 = λ p. HitsOnly p (is_excused c) n.cube in
    subst Over same (HitsOnly-weaker b.task.program (is_excused b) (is_excused c) n.cube more (settled closed))) nodes h

pub distinct-push : (A : List Atoms) (S : Atoms) → distinct (A ++ S ∷ []) ≡ cond (list_any (same_set S) (distinct A)) (distinct A) (distinct A ++ S ∷ [])
distinct-push A S = folded (λ (Ts : List Atoms) (T : Atoms). cond (list_any (same_set T) Ts) Ts (Ts ++ T ∷ [])) [] A S
  where
    folded : (f : List Atoms → Atoms → List Atoms) (Z A : List Atoms) (S : Atoms) → fold f Z (A ++ S ∷ []) ≡ f (fold f Z A) S
    folded f Z [] S = refl
    folded f Z (T ∷ A) S = folded f (f Z T) A S

distinct-more : (A : List Atoms) (S : Atoms) → length (distinct (A ++ S ∷ [])) ≤ length (distinct A) + 1
distinct-more A S = here (list_any (same_set S) (distinct A)) (distinct-push A S)
  where
    here : (x : Bool) → distinct (A ++ S ∷ []) ≡ cond x (distinct A) (distinct A ++ S ∷ []) → length (distinct (A ++ S ∷ [])) ≤ length (distinct A) + 1
    here true e = omega (arith, ap length e)
    here false e = omega (arith, ap length e, length-append (distinct A) (S ∷ []))

-- Where it isn't enough, one more may be delivered.
pub not_enough : (limit n : ℕ) → 0 < limit → (not (eqb limit 0) && leb limit n) ≡ false → n < limit
not_enough limit n some h = grind (arith, nat_tests)

limited-delivered : (limit : ℕ) (A : List Atoms) (S : Atoms) → 0 < limit → (not (eqb limit 0) && leb limit (length (distinct A))) ≡ false → length (distinct (A ++ S ∷ [])) ≤ limit
limited-delivered limit A S some h = omega (arith, distinct-more A S, not_enough limit (length (distinct A)) some h)

-- ---- every event
pub IsBoard-happens : (b : Board) (e : Event) → IsBoard b → Guard b e → IsBoard (happens b e)
IsBoard-happens b (event.Take s leaf) is g =
    let was : is_leaf (status_of b.nodes leaf) ≡ true = ap is_leaf g.0 in
    IsBoard-with_status b (event.Take s leaf) leaf (status.Held s) is g refl was refl (λ e. let f : ⊥ = cc in f) (apart-taken b leaf s is (leaf-within b.nodes leaf was) g.0 g.1)
IsBoard-happens b (event.Split s leaf l) is g = IsBoard-split b leaf s l is g
IsBoard-happens b (event.Deliver s S) is g =
    let more = λ (T : Atoms). excused-delivered b S T in
    let c : Board = record b { answers = b.answers ++ S ∷ [] } in
    record {
      covered = is.covered;
      delivered = each-append (λ T. IsTrue (lists b.task T) × IsTrue (is_answer b.task T)) b.answers (S ∷ []) is.delivered ((g.0, g.1), tt);
      limited = λ h. limited-delivered b.task.limit b.answers S h g.2;
      best = is.best;
      settled = settled-more b c refl more b.nodes is.settled;
      units = is.units;
      single = is.single;
      apart = is.apart;
      explained = explained-more b c refl more (λ m h. refl) b.reasons is.explained;
      complete = is.complete;
      cubes = is.cubes;
    }
IsBoard-happens b (event.Improve s S) is g =
    let more = λ (T : Atoms). done-improved b.task.goal b.task.program (used b) b.best S T g.0 g.2 in
    let c : Board = record b { best = Some S } in
    record {
      covered = is.covered;
      delivered = is.delivered;
      limited = is.limited;
      best = (g.0, g.1);
      settled = settled-more b c refl more b.nodes is.settled;
      units = is.units;
      single = is.single;
      apart = is.apart;
      explained = explained-more b c refl more (λ m h. refl) b.reasons is.explained;
      complete = is.complete;
      cubes = is.cubes;
    }
IsBoard-happens b (event.Close s leaf n) is g =
    let was : is_leaf (status_of b.nodes leaf) ≡ true = ap is_leaf g.0 in
    let lt : leaf < length b.nodes = leaf-within b.nodes leaf was in
    let closed : Node = record { cube = cube_of b.nodes leaf; status = status.Closed } in
    let reason : Reason = record { leaf = leaf; nogood = n } in
    let c : Board = record b { nodes = with_status b.nodes leaf status.Closed; reasons = b.reasons ++ reason ∷ [] } in
    let own : IsReason c reason = record {
      closed = ap (λ (x : Node). x.status) (get_or-set_same b.nodes leaf closed nowhere lt);
      within = ap (λ (x : Node). has_all x.cube n) (get_or-set_same b.nodes leaf closed nowhere lt) ∙ g.1;
      settled = g.2;
    } in
    record {
      covered = λ S meets. leaves_hit-with_status (values b.task.program S) b.nodes leaf status.Closed was refl ∙ is.covered S meets;
      delivered = is.delivered;
      limited = is.limited;
      best = is.best;
      settled = each-set (IsSettled b) b.nodes leaf closed is.settled (λ e. HitsOnly-within b.task.program (is_excused b) (cube_of b.nodes leaf) n g.1 g.2);
      units = is.units;
      single = is.single;
      apart = apart-less b leaf status.Closed is lt (λ s. refl);
      explained = each-append (IsReason c) b.reasons (reason ∷ []) (explained-more b c refl (λ T h. h) (λ m h. closed-stays b (event.Close s leaf n) m g h) b.reasons is.explained) (own, tt);
      complete = λ m h. reason-there b.reasons leaf reason m (λ ne. is.complete m (ap (λ (x : Node). x.status) (sym (get_or-set_other b.nodes leaf m closed nowhere ne)) ∙ h)) refl;
      cubes = each-set (λ (x : Node). IsCube b.task x.cube) b.nodes leaf closed is.cubes (cube-at b.task b.nodes leaf lt is.cubes);
    }
IsBoard-happens b (event.Release s leaf) is g =
    let was : is_leaf (status_of b.nodes leaf) ≡ true = ap is_leaf g in
    IsBoard-with_status b (event.Release s leaf) leaf status.Open is g refl was refl (λ e. let f : ⊥ = cc in f) (apart-less b leaf status.Open is (leaf-within b.nodes leaf was) (λ s. refl))
IsBoard-happens b (event.Lease s n) is g = record {
  covered = is.covered;
  delivered = is.delivered;
  limited = is.limited;
  best = is.best;
  settled = is.settled;
  units = omega (arith, is.units, g, total-leased s n b.out);
  single = single-leased s n b.out is.single;
  apart = is.apart;
  explained = explained-more b (happens b (event.Lease s n)) refl (λ T h. h) (λ m h. refl) b.reasons is.explained;
  complete = is.complete;
  cubes = is.cubes;
}
IsBoard-happens b (event.Back s left burnt) is g = record {
  covered = is.covered;
  delivered = is.delivered;
  limited = is.limited;
  best = is.best;
  settled = is.settled;
  units = omega (arith, is.units, g, total-returned s b.out);
  single = single-returned s b.out is.single;
  apart = is.apart;
  explained = explained-more b (happens b (event.Back s left burnt)) refl (λ T h. h) (λ m h. refl) b.reasons is.explained;
  complete = is.complete;
  cubes = is.cubes;
}
