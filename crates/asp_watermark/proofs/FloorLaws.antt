-- Answers below a floor are delivered, and floors and lows stay as the search goes on.
use Rattle.std.proofs.Common.{◌≡◌, ◌⊎◌, inl, inr, ℕ, ◌+◌, ◌<◌, suc, Bool, true, false, not, ◌&&◌, eqb, List, [], ◌∷◌, filter, length, Option, None, Some, refl, sym, ap, ◌∙◌, arith}
use Rattle.std.specs.List.{list_any}
use Rattle.std.proofs.lemmas.Bool.{false≢true, and_parts, and_from, eqb-true, false_from_ne_true, or_cases}
use Rattle.asp_model.specs.declared.program.Program.{Program}
use Rattle.asp_model.specs.Sets.{Atoms, IsAscending, IsSubset, has, same_set, with_atom}
use Rattle.asp_model.specs.Holding.{all_hold}
use Rattle.asp_model.specs.Models.{atoms_of, is_stable, models}
use Rattle.asp_model.proofs.ModelLaws.{same_bools, stable-subset}
use Rattle.asp_model.proofs.SetLaws.{IsAscending-with_atom, has-with_atom}
use Rattle.asp_vars.specs.Literals.{Literal, T, complement, has_literal, hits}
use Rattle.asp_vars.specs.Numbering.{values, var_of_atom}
use Rattle.asp_vars.specs.Entailment.{costs_bound, is_done}
use Rattle.asp_vars.proofs.CompletionLaws.{atom-true}
use Rattle.asp_vars.proofs.LiteralLaws.{hits-has}
use Rattle.asp_vars.proofs.PlaceLaws.{at_each}
use Rattle.asp_vars.proofs.ResolutionLaws.{not_true}
use Rattle.asp_model.specs.Consequences.{used_up}
use Rattle.asp_path.specs.declared.status.Status.TheVariants as status
use Rattle.asp_path.specs.Trees.{Node, all_closed, cube_of, is_unclosed, nowhere, status_of}
use Rattle.asp_core.specs.declared.event.Event.{Event}
use Rattle.asp_core.specs.declared.event.Event.TheVariants as event
use Rattle.asp_core.specs.declared.goal.Goal.{Goal}
use Rattle.asp_core.specs.declared.goal.Goal.TheVariants as goal
use Rattle.asp_core.specs.declared.task.Task.{Task}
use Rattle.asp_core.specs.Boards.{Board, bound_by, is_answer, is_excused, lists, lists_by, showing, sought, wanted}
use Rattle.asp_core.specs.Events.{Guard, happens, run, IsLawful}
use Rattle.asp_core.specs.Invariant.{IsBoard, IsSettled}
use Rattle.asp_core.specs.Sorting.{answers_of, sorted_once}
use Rattle.asp_core.proofs.GrowthLaws.{Grows-happens}
use Rattle.asp_core.proofs.ResultLaws.{IsBoard-run, answers-excused, delivered_all, task-run}
use Rattle.asp_core.proofs.SortingLaws.{has-answers_of, has-filter, models-rise, rise-filter, rise-same, sorted-has, sorted-rise, Rise}
use Rattle.asp_watermark.specs.Floors.{IsFloor, IsLow, StaysFrom, is_below, listed, passed}
use Rattle.asp_watermark.proofs.BelowLaws.{part-before}
use Rattle.asp_watermark.proofs.LeafLaws.{CameFrom, IsHit, all-closed, came-from, closed_or_not, cube-stays, first-cube, longer, nodes-stay, second-cube, some-hit}

-- ---- below a floor all is delivered
low-excused : (b : Board) (x S : Atoms) (leaf : ℕ) → IsAscending x → StaysFrom b x leaf → is_answer b.task S ≡ true →
    hits (values b.task.program S) (cube_of b.nodes leaf) ≡ true → is_below (Some x) S ≡ true → is_excused b S ≡ true
low-excused b x S leaf up stays answer hit below = here (is_excused b S) refl
  where
    here : (y : Bool) → y ≡ is_excused b S → y ≡ true
    here true q = refl
    here false q =
        let parts = and_parts (is_stable b.task.program S) (all_hold S (wanted b.task)) answer in
        let asc : IsAscending S = (stable-subset b.task.program S parts.0).0 in
        absurd (stays.2 (part-before stays.0 S x stays.1.rising asc up (stays.1.contained S answer hit (sym q)) below))

pub below-excused : (b : Board) (floor : Option Atoms) (S : Atoms) → IsBoard b → IsFloor b floor → is_answer b.task S ≡ true → is_below floor S ≡ true → is_excused b S ≡ true
below-excused b None S is closed answer below = answers-excused b is closed S answer
below-excused b (Some x) S is low answer below =
    let parts = and_parts (is_stable b.task.program S) (all_hold S (wanted b.task)) answer in
    let at : IsHit (values b.task.program S) b.nodes = some-hit (values b.task.program S) b.nodes (omega (arith, is.covered S parts.1)) in
    here at parts.0 (closed_or_not (status_of b.nodes at.leaf) at.is)
  where
    here : (at : IsHit (values b.task.program S) b.nodes) → is_stable b.task.program S ≡ true →
        ((status_of b.nodes at.leaf ≡ status.Closed) ⊎ (is_unclosed (status_of b.nodes at.leaf) ≡ true)) → is_excused b S ≡ true
    here at stable (inl closed) = (at_each (IsSettled b) b.nodes at.leaf nowhere is.settled at.within closed).excused S stable at.hit
    here at stable (inr open_leaf) = low-excused b x S at.leaf low.0 (low.1 at.leaf open_leaf) answer at.hit below

excused-delivered : (m : Goal) (p : Program) (A : List Atoms) (best : Option Atoms) (S : Atoms) → sought m ≡ None → lists_by m p S ≡ true →
    is_done p (used_up (sought m) p (showing m p A)) (bound_by m p best) S ≡ true → list_any (same_set S) A ≡ true
excused-delivered goal.Enum p A best S none lists done = here (or_cases (list_any (same_set S) A) false done)
  where
    here : ((list_any (same_set S) A ≡ true) ⊎ (false ≡ true)) → list_any (same_set S) A ≡ true
    here (inl h) = h
    here (inr h) = absurd (false≢true h)
excused-delivered goal.Opt p A best S none lists done = absurd (false≢true lists)
excused-delivered (goal.Ties c) p A best S none lists done = here (or_cases (list_any (same_set S) A) (costs_bound p c S) done)
  where
    here : ((list_any (same_set S) A ≡ true) ⊎ (costs_bound p c S ≡ true)) → list_any (same_set S) A ≡ true
    here (inl h) = h
    here (inr h) = absurd (false≢true (sym (not_true (costs_bound p c S) lists) ∙ h))
excused-delivered (goal.Consequences r n) p A best S none lists done = absurd (let f : ⊥ = cc in f)

pub below-delivered : (b : Board) (floor : Option Atoms) (S : Atoms) → IsBoard b → sought b.task.goal ≡ None → IsFloor b floor →
    is_answer b.task S ≡ true → lists b.task S ≡ true → is_below floor S ≡ true → list_any (same_set S) b.answers ≡ true
below-delivered b floor S is none low answer lists below = excused-delivered b.task.goal b.task.program b.answers b.best S none lists (below-excused b floor S is low answer below)

-- ---- so these are a front of the list
pub listed-rise : (t : Task) → Rise (listed t)
listed-rise t = rise-filter (lists t) (answers_of t) (rise-filter (λ S. all_hold S (wanted t)) (models t.program) (models-rise t.program))

under : (x a b : Bool) → (x ≡ true → a ≡ b) → (x && a) ≡ (x && b)
under true a b h = h refl
under false a b h = refl

and_turn : (a b : Bool) → (a && b) ≡ (b && a)
and_turn true true = refl
and_turn true false = refl
and_turn false true = refl
and_turn false false = refl

pub passed-listed : (b : Board) (floor : Option Atoms) → IsBoard b → sought b.task.goal ≡ None → IsFloor b floor → passed b floor ≡ filter (is_below floor) (listed b.task)
passed-listed b floor is none low =
    rise-same (passed b floor) (filter (is_below floor) (listed b.task))
    (rise-filter (is_below floor) (sorted_once b.answers) (sorted-rise [] b.answers tt))
    (rise-filter (is_below floor) (listed b.task) (listed-rise b.task))
    (λ S.
    has-filter (is_below floor) (sorted_once b.answers) S
    ∙ ap (λ x. is_below floor S && x) (sorted-has [] b.answers S)
    ∙ under (is_below floor S) (list_any (same_set S) b.answers) (lists b.task S && is_answer b.task S) (λ below. same_bools (list_any (same_set S) b.answers) (lists b.task S && is_answer b.task S)
    (λ h. and_turn (lists b.task S) (is_answer b.task S) ∙ delivered_all b.task.goal b.task b.answers S is.delivered h)
    (λ h. let parts = and_parts (lists b.task S) (is_answer b.task S) h in below-delivered b floor S is none low parts.1 parts.0 below))
    ∙ ap (λ x. is_below floor S && x) (sym (has-filter (lists b.task) (answers_of b.task) S ∙ ap (λ x. lists b.task S && x) (has-answers_of b.task S)))
    ∙ sym (has-filter (is_below floor) (listed b.task) S))

-- ---- an event leaves lows and floors
not-excused : (b : Board) (e : Event) (S : Atoms) → Guard b e → is_excused (happens b e) S ≡ false → is_excused b S ≡ false
not-excused b e S g h = here (is_excused b S) refl
  where
    here : (x : Bool) → x ≡ is_excused b S → x ≡ false
    here true q = absurd (false≢true (sym h ∙ (Grows-happens b e g).excused S (sym q)))
    here false q = refl

-- by a node whose cube is hit by all that hits the other's
IsLow-happens : (b : Board) (e : Event) (was leaf : ℕ) (low : Atoms) → Guard b e →
    ((v : List Bool) → hits v (cube_of (happens b e).nodes leaf) ≡ true → hits v (cube_of b.nodes was) ≡ true) → IsLow b was low →
    IsLow (happens b e) leaf low
IsLow-happens b e was leaf low g hit is =
    let same : (happens b e).task ≡ b.task = (Grows-happens b e g).task in
    record {
      rising = is.rising;
      contained = λ S answer h fresh.
          is.contained S (ap (λ (t : Task). is_answer t S) (sym same) ∙ answer)
          (hit (values b.task.program S) (ap (λ (t : Task). hits (values t.program S) (cube_of (happens b e).nodes leaf)) (sym same) ∙ h))
          (not-excused b e S g fresh);
    }

no-leaf : (b : Board) (e : Event) (leaf : ℕ) → Guard b e → all_closed b.nodes ≡ true → is_unclosed (status_of (happens b e).nodes leaf) ≡ true → ⊥
no-leaf b e leaf g closed h = let from : CameFrom b.nodes (happens b e).nodes leaf = came-from b e leaf g h in all-closed b.nodes from.was closed from.unclosed

each-closed : (nodes : List Node) → ((leaf : ℕ) → is_unclosed (status_of nodes leaf) ≡ true → ⊥) → all_closed nodes ≡ true
each-closed [] none = refl
each-closed (n ∷ nodes) none = and_from (not (is_unclosed n.status)) (all_closed nodes) (ap not (false_from_ne_true (is_unclosed n.status) (none 0))) (each-closed nodes (λ leaf. none (suc leaf)))

pub IsFloor-happens : (b : Board) (e : Event) (floor : Option Atoms) → Guard b e → IsFloor b floor → IsFloor (happens b e) floor
IsFloor-happens b e None g closed = each-closed (happens b e).nodes (λ leaf. no-leaf b e leaf g closed)
IsFloor-happens b e (Some x) g low = (
  low.0,
  λ leaf h.
      let from : CameFrom b.nodes (happens b e).nodes leaf = came-from b e leaf g h in
      let stays : StaysFrom b x from.was = low.1 from.was from.unclosed in
      (stays.0, IsLow-happens b e from.was leaf stays.0 g from.hit stays.1, stays.2),
)

pub IsFloor-run : (b : Board) (journal : List Event) (floor : Option Atoms) → IsLawful b journal → IsFloor b floor → IsFloor (run b journal) floor
IsFloor-run b [] floor lawful low = low
IsFloor-run b (e ∷ journal) floor lawful low = IsFloor-run (happens b e) journal floor lawful.1 (IsFloor-happens b e floor lawful.0 low)

pub IsLow-run : (b : Board) (journal : List Event) (leaf : ℕ) (low : Atoms) → IsLawful b journal → leaf < length b.nodes → IsLow b leaf low → IsLow (run b journal) leaf low
IsLow-run b [] leaf low lawful lt is = is
IsLow-run b (e ∷ journal) leaf low lawful lt is =
    IsLow-run (happens b e) journal leaf low lawful.1 (nodes-stay b e leaf lt) (IsLow-happens b e leaf leaf low lawful.0 (λ v h. ap (hits v) (sym (cube-stays b e leaf lt)) ∙ h) is)

-- ---- what was passed stays so
pub passed-run : (b : Board) (journal : List Event) (floor : Option Atoms) → IsBoard b → IsLawful b journal → sought b.task.goal ≡ None →
    IsFloor b floor → passed (run b journal) floor ≡ passed b floor
passed-run b journal floor is lawful none low =
    let c : Board = run b journal in
    let same : c.task ≡ b.task = task-run b journal in
    passed-listed c floor (IsBoard-run b journal is lawful) (ap (λ (t : Task). sought t.goal) same ∙ none) (IsFloor-run b journal floor lawful low)
    ∙ ap (λ (t : Task). filter (is_below floor) (listed t)) same ∙ sym (passed-listed b floor is none low)

-- ---- lows
pub IsLow-nothing : (b : Board) (leaf : ℕ) → IsLow b leaf []
IsLow-nothing b leaf = record { rising = tt; contained = λ S answer hit fresh a h. absurd (false≢true h) }

pub IsFloor-start : (b : Board) → IsFloor b (Some [])
IsFloor-start b = (tt, λ leaf h. ([], IsLow-nothing b leaf, λ before. absurd (false≢true before.1)))

pub IsFloor-closed : (b : Board) (x : Atoms) → all_closed b.nodes ≡ true → IsAscending x → IsFloor b (Some x)
IsFloor-closed b x closed up = (up, λ leaf h. absurd (all-closed b.nodes leaf closed h))

-- an atom that each answer has that is still to come
pub IsLow-with_atom : (b : Board) (leaf a : ℕ) (low : Atoms) → IsLow b leaf low →
    ((S : Atoms) → is_answer b.task S ≡ true → hits (values b.task.program S) (cube_of b.nodes leaf) ≡ true → is_excused b S ≡ false → has S a ≡ true)
    → IsLow b leaf (with_atom a low)
IsLow-with_atom b leaf a low is each = record {
  rising = IsAscending-with_atom a low is.rising;
  contained = λ S answer hit fresh c h. here S c (each S answer hit fresh) (is.contained S answer hit fresh) (or_cases (eqb a c) (has low c) (sym (has-with_atom a c low) ∙ h));
}
  where
    here : (S : Atoms) (c : ℕ) → has S a ≡ true → IsSubset low S → ((eqb a c ≡ true) ⊎ (has low c ≡ true)) → has S c ≡ true
    here S c there part (inl e) = ap (has S) (sym (eqb-true a c e)) ∙ there
    here S c there part (inr h) = part c h

pub IsLow-cube : (b : Board) (leaf a : ℕ) (low : Atoms) → IsLow b leaf low → has (atoms_of b.task.program) a ≡ true →
    has_literal (cube_of b.nodes leaf) (T (var_of_atom b.task.program a)) ≡ true → IsLow b leaf (with_atom a low)
IsLow-cube b leaf a low is atom there =
    IsLow-with_atom b leaf a low is
    (λ S answer hit fresh. sym (atom-true b.task.program S a atom) ∙ hits-has (values b.task.program S) (cube_of b.nodes leaf) (T (var_of_atom b.task.program a)) hit there)

pub IsLow-first : (b : Board) (s leaf : ℕ) (l : Literal) (low : Atoms) → Guard b (event.Split s leaf l) → IsLow b leaf low → IsLow (happens b (event.Split s leaf l)) (length b.nodes) low
IsLow-first b s leaf l low g is = IsLow-happens b (event.Split s leaf l) leaf (length b.nodes) low g (λ v h. longer v (cube_of b.nodes leaf) l (ap (hits v) (sym (first-cube b.nodes leaf l)) ∙ h)) is

pub IsLow-second : (b : Board) (s leaf : ℕ) (l : Literal) (low : Atoms) → Guard b (event.Split s leaf l) → IsLow b leaf low → IsLow (happens b (event.Split s leaf l)) (length b.nodes + 1) low
IsLow-second b s leaf l low g is = IsLow-happens b (event.Split s leaf l) leaf (length b.nodes + 1) low g
    (λ v h. longer v (cube_of b.nodes leaf) (complement l) (ap (hits v) (sym (second-cube b.nodes leaf l)) ∙ h)) is
