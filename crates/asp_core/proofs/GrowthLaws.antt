-- What no event takes back, and what the events of others leave alone.
use Rattle.std.proofs.Common.{◌≡◌, ℕ, ◌+◌, ◌≤◌, Bool, true, false, cond, eqb, List, [], ◌∷◌, ◌++◌, length, Option, Some, None, refl, sym, ap, ◌∙◌, arith}
use Rattle.std.specs.Prelude.{ℤ}
use Rattle.std.specs.List.{list_any, AllByRecursion}
use Rattle.std.proofs.lemmas.Bool.{eqb-true, ne_eqb, or_left}
use Rattle.std.proofs.lemmas.List.{length-append}
use Rattle.std.proofs.lemmas.List.Folds.{list_any-append}
use Rattle.asp_model.specs.declared.program.Program.{Program}
use Rattle.asp_model.specs.declared.results.Reasoning.{Reasoning}
use Rattle.asp_model.specs.Consequences.{common_sets}
use Rattle.asp_model.proofs.ConsequenceLaws.{pushed-some}
use Rattle.asp_model.specs.Sets.{Atoms, same_set}
use Rattle.asp_model.specs.Costs.{cost, betters}
use Rattle.asp_vars.specs.Entailment.{costs, is_done}
use Rattle.asp_vars.proofs.ResolutionLaws.{betters_trans}
use Rattle.asp_path.specs.declared.status.Status.{Status}
use Rattle.asp_path.specs.declared.status.Status.TheVariants as status
use Rattle.asp_path.specs.Trees.{Node, is_leaf, is_held_by, status_of, with_status}
use Rattle.asp_path.proofs.TreeLaws.{leaf-within}
use Rattle.asp_core.specs.declared.event.Event.{Event}
use Rattle.asp_core.specs.declared.event.Event.TheVariants as event
use Rattle.asp_core.specs.declared.goal.Goal.{Goal}
use Rattle.asp_core.specs.declared.goal.Goal.TheVariants as goal
use Rattle.asp_core.specs.Units.{out_of, leased, returned}
use Rattle.asp_core.specs.Boards.{Board, IsBoundBy, bound_by, count_by, distinct, showing, showing_by, sought, used}
use Rattle.asp_core.specs.Events.{Guard, happens, held_by, maker, run, IsLawful}
use Rattle.asp_core.specs.Growth.{Grows, Spares}
use Rattle.asp_core.proofs.AskedLaws.{showing_by-empty}
use Rattle.asp_core.proofs.BoardLaws.{distinct-push, excused-delivered, done-improved, held-changed, held-split, not_after, not_false, or_none}
use Rattle.asp_core.proofs.HeldLaws.{stays-happens}

-- ---- what is recorded
pub Grows-itself : (b : Board) → Grows b b
Grows-itself b = record { task = refl; excused = λ S h. h; listed = λ S h. h; known = omega arith; bounds = λ d h. h }

pub Grows-trans : (a b c : Board) → Grows a b → Grows b c → Grows a c
Grows-trans a b c g h = record {
  task = h.task ∙ g.task;
  excused = λ S e. h.excused S (g.excused S e);
  listed = λ S e. h.listed S (g.listed S e);
  known = omega (arith, g.known, h.known);
  bounds = λ d e. h.bounds d (g.bounds d e);
}

distinct-grows : (A : List Atoms) (S : Atoms) → length (distinct A) ≤ length (distinct (A ++ S ∷ []))
distinct-grows A S = here (list_any (same_set S) (distinct A)) (distinct-push A S)
  where
    here : (x : Bool) → distinct (A ++ S ∷ []) ≡ cond x (distinct A) (distinct A ++ S ∷ []) → length (distinct A) ≤ length (distinct (A ++ S ∷ []))
    here true e = omega (arith, ap length e)
    here false e = omega (arith, ap length e, length-append (distinct A) (S ∷ []))

bound-improved : (m : Goal) (p : Program) (K : List Atoms) (best : Option Atoms) (S : Atoms) (d : List ℤ) → is_done p K (bound_by m p best) S ≡ false → IsBoundBy m p best d → IsBoundBy m p (Some S) d
bound-improved goal.Enum p K best S d less h = absurd h
bound-improved (goal.Ties c) p K best S d less h = h
bound-improved (goal.Consequences r n) p K best S d less h = absurd h
bound-improved goal.Opt p K None S d less h = absurd h
bound-improved goal.Opt p K (Some B) S d less h =
    let better : betters (cost p S) (cost p B) ≡ true = not_false (betters (cost p S) (cost p B)) (or_none (list_any (same_set S) K) (costs p (cost p B) S) less) in
    betters_trans d (cost p B) (cost p S) h (not_after (cost p B) (cost p S) better)

one-grows : (r : Reasoning) (p : Program) (A B : List Atoms) → (B ≡ [] → A ≡ []) → length (common_sets r p A) ≤ length (common_sets r p B)
one-grows r p [] B some = omega arith
one-grows r p (T ∷ A) [] some = absurd (let e : T ∷ A ≡ [] = some refl in let f : ⊥ = cc in f)
one-grows r p (T ∷ A) (U ∷ B) some = omega arith

count-grows : (g : Goal) (p : Program) (A : List Atoms) (S : Atoms) → count_by (sought g) p (showing g p A) ≤ count_by (sought g) p (showing g p (A ++ S ∷ []))
count-grows goal.Enum p A S = distinct-grows A S
count-grows goal.Opt p A S = distinct-grows A S
count-grows (goal.Ties c) p A S = distinct-grows A S
count-grows (goal.Consequences r n) p A S =
    one-grows r p (showing_by n r p A) (showing_by n r p (A ++ S ∷ [])) (λ e. absurd (pushed-some A S (showing_by-empty n r p (A ++ S ∷ []) e)))

pub Grows-happens : (b : Board) (e : Event) → Guard b e → Grows b (happens b e)
Grows-happens b (event.Take s leaf) g = record { task = refl; excused = λ S h. h; listed = λ S h. h; known = omega arith; bounds = λ d h. h }
Grows-happens b (event.Split s leaf l) g = record { task = refl; excused = λ S h. h; listed = λ S h. h; known = omega arith; bounds = λ d h. h }
Grows-happens b (event.Deliver s S) g = record {
  task = refl;
  excused = λ T h. excused-delivered b S T h;
  listed = λ T h. list_any-append (same_set T) b.answers (S ∷ []) ∙ or_left (list_any (same_set T) b.answers) (list_any (same_set T) (S ∷ [])) h;
  known = count-grows b.task.goal b.task.program b.answers S;
  bounds = λ d h. h;
}
Grows-happens b (event.Improve s S) g = record {
  task = refl;
  excused = λ T h. done-improved b.task.goal b.task.program (used b) b.best S T g.0 g.2 h;
  listed = λ T h. h;
  known = omega arith;
  bounds = λ d h. bound-improved b.task.goal b.task.program (used b) b.best S d g.2 h;
}
Grows-happens b (event.Close s leaf n) g = record { task = refl; excused = λ S h. h; listed = λ S h. h; known = omega arith; bounds = λ d h. h }
Grows-happens b (event.Release s leaf) g = record { task = refl; excused = λ S h. h; listed = λ S h. h; known = omega arith; bounds = λ d h. h }
Grows-happens b (event.Lease s n) g = record { task = refl; excused = λ S h. h; listed = λ S h. h; known = omega arith; bounds = λ d h. h }
Grows-happens b (event.Back s left burnt) g = record { task = refl; excused = λ S h. h; listed = λ S h. h; known = omega arith; bounds = λ d h. h }

pub Grows-run : (b : Board) (journal : List Event) → IsLawful b journal → Grows b (run b journal)
Grows-run b [] lawful = Grows-itself b
Grows-run b (e ∷ journal) lawful = Grows-trans b (happens b e) (run (happens b e) journal) (Grows-happens b e lawful.0) (Grows-run (happens b e) journal lawful.1)

-- ---- what others leave alone
apart : (s : ℕ) (x y : Status) → x ≡ y → is_held_by s y ≡ false → (let k : ℕ = cond (is_held_by s x) 1 0 in k ≡ 0)
apart s x y e h = ap (λ z. let k : ℕ = cond (is_held_by s z) 1 0 in k) e ∙ ap (λ z. let k : ℕ = cond z 1 0 in k) h

held-other : (b : Board) (n s : ℕ) (old new : Status) → status_of b.nodes n ≡ old → is_leaf old ≡ true → is_held_by s old ≡ false →
    is_held_by s new ≡ false → held_by s (with_status b.nodes n new) ≡ held_by s b.nodes
held-other b n s old new was leaf not_old not_new =
    omega (arith, held-changed s b.nodes n new (leaf-within b.nodes n (ap is_leaf was ∙ leaf)), apart s (status_of b.nodes n) old was not_old, apart s new new refl not_new)

pub held-happens : (b : Board) (e : Event) (s : ℕ) → Guard b e → (maker e ≡ s → ⊥) → held_by s (happens b e).nodes ≡ held_by s b.nodes
held-happens b (event.Take t n) s g ne = held-other b n s status.Open (status.Held t) g.0 refl refl (ne_eqb t s ne)
held-happens b (event.Split t n l) s g ne = held-split s b.nodes n l (leaf-within b.nodes n (ap is_leaf g.0))
held-happens b (event.Deliver t S) s g ne = refl
held-happens b (event.Improve t S) s g ne = refl
held-happens b (event.Close t n c) s g ne = held-other b n s (status.Held t) status.Closed g.0 refl (ne_eqb t s ne) refl
held-happens b (event.Release t n) s g ne = held-other b n s (status.Held t) status.Open g refl (ne_eqb t s ne) refl
held-happens b (event.Lease t n) s g ne = refl
held-happens b (event.Back t left burnt) s g ne = refl

entry-other : (x s t : ℕ) (u v w : ℕ) → (t ≡ s → ⊥) → eqb x t ≡ true → (let a : ℕ = cond (eqb x s) u w in let b : ℕ = cond (eqb x s) v w in a ≡ b)
entry-other x s t u v w ne e = ap (λ z. let a : ℕ = cond z u w in a) (ne_eqb x s (λ q. ne (sym (eqb-true x t e) ∙ q)))
    ∙ sym (ap (λ z. let a : ℕ = cond z v w in a) (ne_eqb x s (λ q. ne (sym (eqb-true x t e) ∙ q))))

pub out_of-leased_other : (out : List (ℕ × ℕ)) (t n s : ℕ) → (t ≡ s → ⊥) → out_of (leased t n out) s ≡ out_of out s
out_of-leased_other [] t n s ne = ap (λ z. let k : ℕ = cond z n 0 in k) (ne_eqb t s ne)
out_of-leased_other (x ∷ out) t n s ne = here (eqb x.0 t) refl (out_of-leased_other out t n s ne)
  where
    here : (z : Bool) → eqb x.0 t ≡ z → out_of (leased t n out) s ≡ out_of out s → out_of (cond z ((x.0, x.1 + n) ∷ out) (x ∷ leased t n out)) s ≡ cond (eqb x.0 s) x.1 (out_of out s)
    here true q rest = entry-other x.0 s t (x.1 + n) x.1 (out_of out s) ne q
    here false q rest = ap (λ k. cond (eqb x.0 s) x.1 k) rest

pub out_of-returned_other : (out : List (ℕ × ℕ)) (t s : ℕ) → (t ≡ s → ⊥) → out_of (returned t out) s ≡ out_of out s
out_of-returned_other [] t s ne = refl
out_of-returned_other (x ∷ out) t s ne = here (eqb x.0 t) refl (out_of-returned_other out t s ne)
  where
    here : (z : Bool) → eqb x.0 t ≡ z → out_of (returned t out) s ≡ out_of out s → out_of (cond z ((x.0, 0) ∷ out) (x ∷ returned t out)) s ≡ cond (eqb x.0 s) x.1 (out_of out s)
    here true q rest = entry-other x.0 s t 0 x.1 (out_of out s) ne q
    here false q rest = ap (λ k. cond (eqb x.0 s) x.1 k) rest

pub units-happens : (b : Board) (e : Event) (s : ℕ) → (maker e ≡ s → ⊥) → out_of (happens b e).out s ≡ out_of b.out s
units-happens b (event.Take t n) s ne = refl
units-happens b (event.Split t n l) s ne = refl
units-happens b (event.Deliver t S) s ne = refl
units-happens b (event.Improve t S) s ne = refl
units-happens b (event.Close t n c) s ne = refl
units-happens b (event.Release t n) s ne = refl
units-happens b (event.Lease t n) s ne = out_of-leased_other b.out t n s ne
units-happens b (event.Back t left burnt) s ne = out_of-returned_other b.out t s ne

pub Spares-run : (b : Board) (journal : List Event) (s : ℕ) → IsLawful b journal → AllByRecursion (λ e. maker e ≡ s → ⊥) journal → Spares s b (run b journal)
Spares-run b [] s lawful others = record { leaves = λ leaf h. refl; count = refl; units = refl }
Spares-run b (e ∷ journal) s lawful others =
    let rest = Spares-run (happens b e) journal s lawful.1 others.1 in
    record {
      leaves = λ leaf h. let step = stays-happens b e s leaf lawful.0 h others.0 in rest.leaves leaf (ap (λ (x : Node). x.status) step ∙ h) ∙ step;
      count = rest.count ∙ held-happens b e s lawful.0 others.0;
      units = rest.units ∙ units-happens b e s others.0;
    }
