-- Which leaves aren't closed, and the parts that wait.
use Rattle.std.proofs.Common.{◌≡◌, ◌⊎◌, ℕ, ◌+◌, true, false, ◌||◌, eqb, List, [], ◌∷◌, ◌++◌, length, set, Some, refl, sym, ap, ◌∙◌, subst, inl, inr, arith}
use Rattle.std.specs.Prelude.{slice_get}
use Rattle.std.specs.List.{AllByRecursion}
use Rattle.std.proofs.lemmas.Bool.{false≢true, eqb-true, eq-eqb, or_cases, cases_eq}
use Rattle.std.proofs.Math.Seq.{get_or-append_seam}
use Rattle.std.proofs.lemmas.List.{get_or-set_other, length-append, length-set}
use Rattle.asp_model.specs.Models.{atoms_of}
use Rattle.asp_model.specs.Sets.{Atoms, IsAscending, IsBefore, has}
use Rattle.asp_model.proofs.MemberLaws.{each_weaker}
use Rattle.asp_vars.specs.Literals.{Literal, complement}
use Rattle.asp_path.specs.declared.status.Status.{Status}
use Rattle.asp_path.specs.declared.status.Status.TheVariants as status
use Rattle.asp_path.specs.Trees.{Node, nowhere, cube_of, held_count, is_leaf, is_open, is_unclosed, open_from, split, status_of, with_status}
use Rattle.asp_core.specs.declared.event.Event.{Event}
use Rattle.asp_core.specs.declared.event.Event.TheVariants as event
use Rattle.asp_core.specs.declared.task.Task.{Task}
use Rattle.asp_core.specs.Boards.{Board}
use Rattle.asp_core.specs.Events.{Guard, happens}
use Rattle.asp_core.proofs.GrowthLaws.{Grows-happens}
use Rattle.asp_core.proofs.PlaceLaws.{held_count-changed}
use Rattle.asp_crew.proofs.TreeLaws.{status-set, taken-open}
use Rattle.asp_rows.specs.Listed.{IsRowOf}
use Rattle.asp_watermark.specs.Floors.{IsFloor, IsLow, StaysFrom, is_below}
use Rattle.asp_watermark.proofs.FloorLaws.{IsLow-run}
use Rattle.asp_watermark.proofs.LeafLaws.{nodes-stay}
use Rattle.asp_stream.specs.Streams.{Covers, IsPart, MayRise, leaves_of}
use Rattle.asp_stream.specs.declared.part.Part.{Part}
use Rattle.asp_backlog.proofs.ToldLaws.{before-below}

-- ---- leaves in a list
pub has-later : (leaf : ℕ) (leaves : List ℕ) (m : ℕ) → has (leaf ∷ leaves) m ≡ true → (m ≡ leaf → ⊥) → has leaves m ≡ true
has-later leaf leaves m h other = here (or_cases (eqb leaf m) (has leaves m) h)
  where
    here : ((eqb leaf m ≡ true) ⊎ (has leaves m ≡ true)) → has leaves m ≡ true
    here (inl e) = absurd (other (sym (eqb-true leaf m e)))
    here (inr e) = e

-- ---- one status changes
pub status-other : (nodes : List Node) (n m : ℕ) (new : Status) → (m ≡ n → ⊥) → status_of (with_status nodes n new) m ≡ status_of nodes m
status-other nodes n m new other =
    ap (λ (x : Node). x.status) (get_or-set_other nodes n m (record { cube = cube_of nodes n; status = new }) nowhere other)

pub covers-set : (b c : Board) (leaf : ℕ) (new : Status) (leaves : List ℕ) → c.nodes ≡ with_status b.nodes leaf new → Covers b (leaf ∷ leaves) → Covers c (leaf ∷ leaves)
covers-set b c leaf new leaves nodes covers m h = here (cases_eq m leaf)
  where
    here : ((m ≡ leaf) ⊎ (m ≡ leaf → ⊥)) → has (leaf ∷ leaves) m ≡ true
    here (inl e) = ap (λ x. x || has leaves m) (eq-eqb leaf m (sym e))
    here (inr other) = covers m (ap is_unclosed (sym (ap (λ (ns : List Node). status_of ns m) nodes ∙ status-other b.nodes leaf m new other)) ∙ h)

-- the leaf is closed
pub covers-closed : (b c : Board) (leaf : ℕ) (leaves : List ℕ) → is_leaf (status_of b.nodes leaf) ≡ true → c.nodes ≡ with_status b.nodes leaf status.Closed →
    Covers b (leaf ∷ leaves) → Covers c leaves
covers-closed b c leaf leaves there nodes covers m h = here (cases_eq m leaf)
  where
    here : ((m ≡ leaf) ⊎ (m ≡ leaf → ⊥)) → has leaves m ≡ true
    here (inl e) =
        let shut : status_of c.nodes m ≡ status.Closed =
        ap (λ (ns : List Node). status_of ns m) nodes ∙ ap (status_of (with_status b.nodes leaf status.Closed)) e ∙ status-set b.nodes leaf status.Closed there in
        absurd (false≢true (ap is_unclosed (sym shut) ∙ h))
    here (inr other) = has-later leaf leaves m (covers-set b c leaf status.Closed leaves nodes covers m h) other

-- no leaf is held, and this one isn't open
pub covers-without : (b : Board) (leaf : ℕ) (leaves : List ℕ) → held_count b.nodes ≡ 0 → is_open (status_of b.nodes leaf) ≡ false → Covers b (leaf ∷ leaves) → Covers b leaves
covers-without b leaf leaves free shut covers m h = here (cases_eq m leaf)
  where
    not-held : (s : Status) → status_of b.nodes leaf ≡ s → is_unclosed s ≡ true → is_open s ≡ false → ⊥
    not-held status.Open e u o = false≢true (sym o)
    not-held (status.Held t) e u o = (let f : ⊥ = omega (arith, free, held_count-changed b.nodes leaf (status.Held t) status.Open e refl) in f)
    not-held status.Closed e u o = false≢true u
    not-held status.Forked e u o = false≢true u

    here : ((m ≡ leaf) ⊎ (m ≡ leaf → ⊥)) → has leaves m ≡ true
    here (inl e) = absurd (not-held (status_of b.nodes leaf) refl (ap (λ k. is_unclosed (status_of b.nodes k)) (sym e) ∙ h) shut)
    here (inr other) = has-later leaf leaves m (covers m h) other

-- nothing is left
pub covers-none : (b : Board) → Covers b [] → open_from 0 b.nodes ≡ []
covers-none b covers = here (open_from 0 b.nodes) refl
  where
    here : (open_leaves : List ℕ) → open_leaves ≡ open_from 0 b.nodes → open_from 0 b.nodes ≡ []
    here [] e = sym e
    here (n ∷ rest) e =
        let is_there : status_of b.nodes n ≡ status.Open = taken-open b.nodes n (ap (λ (l : List ℕ). slice_get l 0) (sym e)) in
        absurd (false≢true (covers n (ap is_unclosed is_there)))

-- ---- a tree that is split
pub length-split : (nodes : List Node) (n : ℕ) (l : Literal) → length (split nodes n l) ≡ length nodes + 2
length-split nodes n l =
    omega (
      arith,
      length-set nodes n (record { cube = cube_of nodes n; status = status.Forked }),
      length-append (with_status nodes n status.Forked)
          (record { cube = cube_of nodes n ++ l ∷ []; status = status_of nodes n } ∷ record { cube = cube_of nodes n ++ complement l ∷ []; status = status.Open } ∷ []),
    )

pub first-status : (nodes : List Node) (n : ℕ) (l : Literal) → status_of (split nodes n l) (length nodes) ≡ status_of nodes n
first-status nodes n l =
    let forked : Node = record { cube = cube_of nodes n; status = status.Forked } in
    ap (λ k. status_of (split nodes n l) k) (sym (length-set nodes n forked))
    ∙ ap (λ (x : Node). x.status) (get_or-append_seam (set nodes n forked) (record { cube = cube_of nodes n ++ l ∷ []; status = status_of nodes n })
    (record { cube = cube_of nodes n ++ complement l ∷ []; status = status.Open } ∷ []) nowhere)

-- ---- parts
pub part-happens : (b : Board) (e : Event) (p : Part) → Guard b e → IsPart b p → IsPart (happens b e) p
part-happens b e p guard is = record {
  within = nodes-stay b e p.leaf is.within;
  low = IsLow-run b (e ∷ []) p.leaf p.low.set (guard, tt) is.within is.low;
  row = subst (λ (t : Task). IsRowOf (atoms_of t.program) p.low) (sym (Grows-happens b e guard).task) is.row;
}

pub parts-happen : (b : Board) (e : Event) (parts : List Part) → Guard b e → AllByRecursion (IsPart b) parts → AllByRecursion (IsPart (happens b e)) parts
parts-happen b e parts guard are = each_weaker (IsPart b) (IsPart (happens b e)) (λ p. part-happens b e p guard) parts are

-- ---- the floor is a low that comes before no other
low-among : (b : Board) (low : Atoms) (parts : List Part) (m : ℕ) → IsAscending low → AllByRecursion (IsPart b) parts →
    AllByRecursion (λ (p : Part). is_below (Some low) p.low.set ≡ false) parts → has (leaves_of parts) m ≡ true → StaysFrom b low m
low-among b low [] m up are above h = absurd (false≢true h)
low-among b low (p ∷ parts) m up are above h = here (low-among b low parts m up are.1 above.1) (or_cases (eqb p.leaf m) (has (leaves_of parts) m) h)
  where
    here : (has (leaves_of parts) m ≡ true → StaysFrom b low m) → ((eqb p.leaf m ≡ true) ⊎ (has (leaves_of parts) m ≡ true)) → StaysFrom b low m
    here later (inl e) = (
      p.low.set,
      subst (λ k. IsLow b k p.low.set) (eqb-true p.leaf m e) are.0.low,
      λ before. false≢true (sym above.0 ∙ before-below p.low.set low are.0.low.rising up before),
    )
    here later (inr e) = later e

not-before-itself : (S : Atoms) → IsBefore S S → ⊥
not-before-itself S before = false≢true (sym before.2 ∙ before.1)

pub floor-at : (b : Board) (leaf : ℕ) (floor low : Atoms) (parts : List Part) → IsLow b leaf low → AllByRecursion (IsPart b) parts → MayRise floor parts low →
    Covers b (leaf ∷ leaves_of parts) → IsFloor b (Some low)
floor-at b leaf floor low parts is are may covers = (
  is.rising,
  λ m h. here m (or_cases (eqb leaf m) (has (leaves_of parts) m) (covers m h)),
)
  where
    here : (m : ℕ) → ((eqb leaf m ≡ true) ⊎ (has (leaves_of parts) m ≡ true)) → StaysFrom b low m
    here m (inl e) = (low, subst (λ k. IsLow b k low) (eqb-true leaf m e) is, not-before-itself low)
    here m (inr e) = low-among b low parts m is.rising are may.lows e
