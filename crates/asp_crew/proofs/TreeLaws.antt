-- Leaves of a tree that are open, and held, when one leaf's status changes.
use Rattle.std.proofs.Common.{◌≡◌, ℕ, suc, ◌+◌, ◌<◌, ◌≤◌, Bool, true, false, cond, ◌&&◌, eqb, List, [], ◌∷◌, length, Some, refl, ap, ◌∙◌, arith}
use Rattle.std.specs.Prelude.{slice_get, count_by}
use Rattle.std.proofs.lemmas.Bool.{eq-eqb}
use Rattle.std.proofs.lemmas.List.{get_or-set_same}
use Rattle.std.proofs.lemmas.List.Sums.{sum_by-cons, sum_by-set}
use Rattle.asp_path.specs.declared.status.Status.{Status}
use Rattle.asp_path.specs.declared.status.Status.TheVariants as status
use Rattle.asp_path.specs.Trees.{Node, nowhere, is_leaf, is_open, is_held, is_held_by, cube_of, status_of, with_status, open_from, held_count, all_closed}
use Rattle.asp_path.proofs.TreeLaws.{leaf-within}
use Rattle.asp_path.proofs.StoredLaws.{all_closed-counted}
use Rattle.asp_core.specs.Events.{held_by}

-- ---- how many are open
open-cons : (x : Node) (nodes : List Node) → count_by (λ n. is_open n.status) (x ∷ nodes) ≡ cond (is_open x.status) 1 0 + count_by (λ n. is_open n.status) nodes
open-cons x nodes = sum_by-cons (λ (n : Node). cond (is_open n.status) 1 0) x nodes

length-open_from : (i : ℕ) (nodes : List Node) → length (open_from i nodes) ≡ count_by (λ n. is_open n.status) nodes
length-open_from i [] = refl
length-open_from i (x ∷ nodes) = here (is_open x.status) (open-cons x nodes) (length-open_from (suc i) nodes)
  where
    here : (b : Bool) → count_by (λ n. is_open n.status) (x ∷ nodes) ≡ cond b 1 0 + count_by (λ n. is_open n.status) nodes → length (open_from (suc i) nodes) ≡ count_by (λ n. is_open n.status) nodes
        → length (cond b (i ∷ open_from (suc i) nodes) (open_from (suc i) nodes)) ≡ count_by (λ n. is_open n.status) (x ∷ nodes)
    here true e rest = omega (arith, e, rest)
    here false e rest = omega (arith, e, rest)

pub open-changed : (nodes : List Node) (n : ℕ) (old new : Status) → status_of nodes n ≡ old → is_leaf old ≡ true →
    length (open_from 0 (with_status nodes n new)) + cond (is_open old) 1 0 ≡ length (open_from 0 nodes) + cond (is_open new) 1 0
open-changed nodes n old new was leaf =
    omega (
      arith,
      length-open_from 0 nodes,
      length-open_from 0 (with_status nodes n new),
      sum_by-set (λ (x : Node). cond (is_open x.status) 1 0) nodes n (record { cube = cube_of nodes n; status = new }) nowhere (leaf-within nodes n (ap is_leaf was ∙ leaf)),
      ap (λ s. let k : ℕ = cond (is_open s) 1 0 in k) was,
    )

-- ---- the first open leaf
pub first-open : (i : ℕ) (nodes : List Node) (leaf : ℕ) → slice_get (open_from i nodes) 0 ≡ Some leaf → (k : ℕ) × (leaf ≡ i + k) × (status_of nodes k ≡ status.Open)
first-open i [] leaf e = absurd (let f : ⊥ = cc in f)
first-open i (x ∷ nodes) leaf e = here x.status refl e (first-open (suc i) nodes leaf)
  where
    below : (k : ℕ) × (leaf ≡ suc i + k) × (status_of nodes k ≡ status.Open) → (k : ℕ) × (leaf ≡ i + k) × (status_of (x ∷ nodes) k ≡ status.Open)
    below h = (suc h.0, omega (arith, h.1), h.2)

    here : (s : Status) → x.status ≡ s → slice_get (cond (is_open s) (i ∷ open_from (suc i) nodes) (open_from (suc i) nodes)) 0 ≡ Some leaf
        → (slice_get (open_from (suc i) nodes) 0 ≡ Some leaf → (k : ℕ) × (leaf ≡ suc i + k) × (status_of nodes k ≡ status.Open)) → (k : ℕ) × (leaf ≡ i + k) × (status_of (x ∷ nodes) k ≡ status.Open)
    here status.Open q e rest = (0, (let f : i ≡ leaf = cc in omega (arith, f)), q)
    here (status.Held s) q e rest = below (rest e)
    here status.Closed q e rest = below (rest e)
    here status.Forked q e rest = below (rest e)

pub taken-open : (nodes : List Node) (leaf : ℕ) → slice_get (open_from 0 nodes) 0 ≡ Some leaf → status_of nodes leaf ≡ status.Open
taken-open nodes leaf e =
    let h = first-open 0 nodes leaf e in
    let is : leaf ≡ h.0 = omega (arith, h.1) in
    ap (status_of nodes) is ∙ h.2

-- ---- a leaf that was held goes
pub status-set : (nodes : List Node) (n : ℕ) (new : Status) → is_leaf (status_of nodes n) ≡ true → status_of (with_status nodes n new) n ≡ new
status-set nodes n new leaf =
    let lt : n < length nodes = leaf-within nodes n leaf in
    ap (λ (x : Node). x.status) (get_or-set_same nodes n (record { cube = cube_of nodes n; status = new }) nowhere lt)

pub cube-set : (nodes : List Node) (n : ℕ) (new : Status) → is_leaf (status_of nodes n) ≡ true → cube_of (with_status nodes n new) n ≡ cube_of nodes n
cube-set nodes n new leaf =
    let lt : n < length nodes = leaf-within nodes n leaf in
    ap (λ (x : Node). x.cube) (get_or-set_same nodes n (record { cube = cube_of nodes n; status = new }) nowhere lt)

-- nobody holds more leaves than are held
pub held_by-le : (s : ℕ) (nodes : List Node) → held_by s nodes ≤ held_count nodes
held_by-le s [] = omega arith
held_by-le s (x ∷ nodes) = omega (
  arith,
  sum_by-cons (λ (n : Node). cond (is_held_by s n.status) 1 0) x nodes,
  sum_by-cons (λ (n : Node). cond (is_held n.status) 1 0) x nodes,
  here x.status,
  held_by-le s nodes,
)
  where
    one : (b : Bool) → cond b 1 0 ≤ 1
    one true = omega arith
    one false = omega arith

    here : (t : Status) → cond (is_held_by s t) 1 0 ≤ cond (is_held t) 1 0
    here status.Open = omega arith
    here (status.Held t) = one (eqb t s)
    here status.Closed = omega arith
    here status.Forked = omega arith

-- where none is open and none held, all are closed
pub closed-when : (nodes : List Node) → open_from 0 nodes ≡ [] → held_count nodes ≡ 0 → all_closed nodes ≡ true
closed-when nodes none free =
    all_closed-counted 0 nodes ∙ ap (λ (l : List ℕ). eqb (length l) 0 && eqb (held_count nodes) 0) none ∙ eq-eqb (held_count nodes) 0 free
