-- Leaves that aren't closed, and where they come from.
use Rattle.std.proofs.Common.{◌≡◌, ◌⊎◌, inl, inr, ℕ, zero, suc, ◌+◌, ◌<◌, Bool, true, false, not, cond, ◌&&◌, List, [], ◌∷◌, ◌++◌, length, get_or, set, refl, sym, ap, ◌∙◌, arith}
use Rattle.std.proofs.lemmas.Bool.{false≢true, and_parts}
use Rattle.std.proofs.lemmas.List.{length-append, length-set, get_or-append-add}
use Rattle.std.proofs.lemmas.List.Sums.{sum_by-cons}
use Rattle.std.proofs.Math.Seq.{get_or-append_seam}
use Rattle.asp_vars.specs.Literals.{Literal, complement, hits}
use Rattle.asp_vars.proofs.LiteralLaws.{hits-append}
use Rattle.asp_path.specs.declared.status.Status.{Status}
use Rattle.asp_path.specs.declared.status.Status.TheVariants as status
use Rattle.asp_path.specs.Trees.{Node, all_closed, cube_of, is_leaf, is_unclosed, leaves_hit, nowhere, split, status_of, with_status}
use Rattle.asp_path.proofs.TreeLaws.{cube_of-split, cube_of-with_status}
use Rattle.asp_core.specs.declared.event.Event.{Event}
use Rattle.asp_core.specs.declared.event.Event.TheVariants as event
use Rattle.asp_core.specs.Boards.{Board}
use Rattle.asp_core.specs.Events.{Guard, happens}

-- ---- a leaf that is hit
pub record IsHit (v : List Bool) (nodes : List Node) : Type 0 where
  pub leaf : ℕ
  pub within : leaf < length nodes
  pub is : is_leaf (status_of nodes leaf) ≡ true
  pub hit : hits v (cube_of nodes leaf) ≡ true

pub some-hit : (v : List Bool) (nodes : List Node) → 0 < leaves_hit v nodes → IsHit v nodes
some-hit v [] some = absurd (omega (arith, some))
some-hit v (n ∷ nodes) some =
    here (is_leaf n.status && hits v n.cube) refl (sum_by-cons (λ (x : Node). cond (is_leaf x.status && hits v x.cube) 1 0) n nodes) (some-hit v nodes)
  where
    here : (x : Bool) → x ≡ (is_leaf n.status && hits v n.cube) → leaves_hit v (n ∷ nodes) ≡ cond (is_leaf n.status && hits v n.cube) 1 0 + leaves_hit v nodes →
        (0 < leaves_hit v nodes → IsHit v nodes) → IsHit v (n ∷ nodes)
    here true q e rest = let parts = and_parts (is_leaf n.status) (hits v n.cube) (sym q) in record { leaf = 0; within = omega arith; is = parts.0; hit = parts.1 }
    here false q e rest =
        let at : IsHit v nodes = rest (omega (arith, e, some, ap (λ x. let k : ℕ = cond x 1 0 in k) q)) in
        record { leaf = suc at.leaf; within = omega (arith, at.within); is = at.is; hit = at.hit }

pub closed_or_not : (s : Status) → is_leaf s ≡ true → (s ≡ status.Closed) ⊎ (is_unclosed s ≡ true)
closed_or_not status.Open h = inr refl
closed_or_not (status.Held t) h = inr refl
closed_or_not status.Closed h = inl refl
closed_or_not status.Forked h = absurd (false≢true h)

not-closed : (s : Status) → is_unclosed s ≡ true → not (is_unclosed s) ≡ true → ⊥
not-closed s h n = false≢true (ap not (sym h) ∙ n)

pub all-closed : (nodes : List Node) (leaf : ℕ) → all_closed nodes ≡ true → is_unclosed (status_of nodes leaf) ≡ true → ⊥
all-closed [] leaf closed h = false≢true h
all-closed (n ∷ nodes) zero closed h = not-closed n.status h (and_parts (not (is_unclosed n.status)) (all_closed nodes) closed).0
all-closed (n ∷ nodes) (suc leaf) closed h = all-closed nodes leaf (and_parts (not (is_unclosed n.status)) (all_closed nodes) closed).1 h

-- ---- where a leaf that isn't closed comes from
unclosed-set : (nodes : List Node) (n : ℕ) (x : Node) (m : ℕ) → is_unclosed (status_of (set nodes n x) m) ≡ true → ((m ≡ n) × (is_unclosed x.status ≡ true)) ⊎ (is_unclosed (status_of nodes m) ≡ true)
unclosed-set [] n x m e = inr e
unclosed-set (y ∷ nodes) zero x zero e = inl (refl, e)
unclosed-set (y ∷ nodes) zero x (suc m) e = inr e
unclosed-set (y ∷ nodes) (suc n) x zero e = inr e
unclosed-set (y ∷ nodes) (suc n) x (suc m) e = further (unclosed-set nodes n x m e)
  where
    further : (((m ≡ n) × (is_unclosed x.status ≡ true)) ⊎ (is_unclosed (status_of nodes m) ≡ true)) → ((suc m ≡ suc n) × (is_unclosed x.status ≡ true)) ⊎ (is_unclosed (status_of nodes m) ≡ true)
    further (inl h) = inl (ap suc h.0, h.1)
    further (inr h) = inr h

-- what stands in a list with two nodes more
abbrev Stood : List Node → Node → Node → ℕ → Type 0
Stood nodes x y m = (get_or (nodes ++ x ∷ y ∷ []) m nowhere ≡ get_or nodes m nowhere) ⊎ ((get_or (nodes ++ x ∷ y ∷ []) m nowhere ≡ x) ⊎ (get_or (nodes ++ x ∷ y ∷ []) m nowhere ≡ y))

stood : (nodes : List Node) (x y : Node) (m : ℕ) → Stood nodes x y m
stood [] x y zero = inr (inl refl)
stood [] x y (suc zero) = inr (inr refl)
stood [] x y (suc (suc m)) = inl refl
stood (z ∷ nodes) x y zero = inl refl
stood (z ∷ nodes) x y (suc m) = stood nodes x y m

-- a leaf whose cube is hit by all that hits the leaf's
pub record CameFrom (old new : List Node) (leaf : ℕ) : Type 0 where
  pub was : ℕ
  pub unclosed : is_unclosed (status_of old was) ≡ true
  pub hit : (v : List Bool) → hits v (cube_of new leaf) ≡ true → hits v (cube_of old was) ≡ true

came-with_status : (nodes : List Node) (n : ℕ) (new : Status) (leaf : ℕ) → (is_unclosed new ≡ true → is_unclosed (status_of nodes n) ≡ true) →
    is_unclosed (status_of (with_status nodes n new) leaf) ≡ true → CameFrom nodes (with_status nodes n new) leaf
came-with_status nodes n new leaf was h = record {
  was = leaf;
  unclosed = here (unclosed-set nodes n (record { cube = cube_of nodes n; status = new }) leaf h);
  hit = λ v e. ap (hits v) (sym (cube_of-with_status nodes n new leaf)) ∙ e;
}
  where
    here : (((leaf ≡ n) × (is_unclosed new ≡ true)) ⊎ (is_unclosed (status_of nodes leaf) ≡ true)) → is_unclosed (status_of nodes leaf) ≡ true
    here (inl e) = ap (λ k. is_unclosed (status_of nodes k)) e.0 ∙ was e.1
    here (inr e) = e

pub longer : (v : List Bool) (cube : List Literal) (l : Literal) → hits v (cube ++ l ∷ []) ≡ true → hits v cube ≡ true
longer v cube l h = (and_parts (hits v cube) (hits v (l ∷ [])) (sym (hits-append v cube (l ∷ [])) ∙ h)).0

came-split : (nodes : List Node) (n : ℕ) (l : Literal) (leaf : ℕ) → is_unclosed (status_of nodes n) ≡ true →
    is_unclosed (status_of (split nodes n l) leaf) ≡ true → CameFrom nodes (split nodes n l) leaf
came-split nodes n l leaf was h =
    here (stood (with_status nodes n status.Forked) (record { cube = cube_of nodes n ++ l ∷ []; status = status_of nodes n })
    (record { cube = cube_of nodes n ++ complement l ∷ []; status = status.Open }) leaf)
  where
    forked : (is_unclosed status.Forked ≡ true) → is_unclosed (status_of nodes n) ≡ true
    forked e = was

    here : Stood (with_status nodes n status.Forked) (record { cube = cube_of nodes n ++ l ∷ []; status = status_of nodes n })
        (record { cube = cube_of nodes n ++ complement l ∷ []; status = status.Open }) leaf → CameFrom nodes (split nodes n l) leaf
    here (inl e) =
        let from : CameFrom nodes (with_status nodes n status.Forked) leaf = came-with_status nodes n status.Forked leaf forked (ap (λ (x : Node). is_unclosed x.status) (sym e) ∙ h) in
        record { was = from.was; unclosed = from.unclosed; hit = λ v hit. from.hit v (ap (λ (x : Node). hits v x.cube) (sym e) ∙ hit) }
    here (inr (inl e)) = record { was = n; unclosed = was; hit = λ v hit. longer v (cube_of nodes n) l (ap (λ (x : Node). hits v x.cube) (sym e) ∙ hit) }
    here (inr (inr e)) = record { was = n; unclosed = was; hit = λ v hit. longer v (cube_of nodes n) (complement l) (ap (λ (x : Node). hits v x.cube) (sym e) ∙ hit) }

itself : (nodes : List Node) (leaf : ℕ) → is_unclosed (status_of nodes leaf) ≡ true → CameFrom nodes nodes leaf
itself nodes leaf h = record { was = leaf; unclosed = h; hit = λ v e. e }

pub came-from : (b : Board) (e : Event) (leaf : ℕ) → Guard b e → is_unclosed (status_of (happens b e).nodes leaf) ≡ true → CameFrom b.nodes (happens b e).nodes leaf
came-from b (event.Take s n) leaf g h = came-with_status b.nodes n (status.Held s) leaf (λ e. ap is_unclosed g.0) h
came-from b (event.Split s n l) leaf g h = came-split b.nodes n l leaf (ap is_unclosed g.0) h
came-from b (event.Deliver s S) leaf g h = itself b.nodes leaf h
came-from b (event.Improve s S) leaf g h = itself b.nodes leaf h
came-from b (event.Close s n c) leaf g h = came-with_status b.nodes n status.Closed leaf (λ e. ap is_unclosed g.0) h
came-from b (event.Release s n) leaf g h = came-with_status b.nodes n status.Open leaf (λ e. ap is_unclosed g) h
came-from b (event.Lease s n) leaf g h = itself b.nodes leaf h
came-from b (event.Back s left burnt) leaf g h = itself b.nodes leaf h

-- ---- a node keeps its cube
pub cube-stays : (b : Board) (e : Event) (node : ℕ) → node < length b.nodes → cube_of (happens b e).nodes node ≡ cube_of b.nodes node
cube-stays b (event.Take s n) node lt = cube_of-with_status b.nodes n (status.Held s) node
cube-stays b (event.Split s n l) node lt = cube_of-split b.nodes n l node lt
cube-stays b (event.Deliver s S) node lt = refl
cube-stays b (event.Improve s S) node lt = refl
cube-stays b (event.Close s n c) node lt = cube_of-with_status b.nodes n status.Closed node
cube-stays b (event.Release s n) node lt = cube_of-with_status b.nodes n status.Open node
cube-stays b (event.Lease s n) node lt = refl
cube-stays b (event.Back s left burnt) node lt = refl

set-longer : (nodes : List Node) (n k : ℕ) (x : Node) → k < length nodes → k < length (set nodes n x)
set-longer nodes n k x lt = omega (arith, lt, length-set nodes n x)

pub nodes-stay : (b : Board) (e : Event) (node : ℕ) → node < length b.nodes → node < length (happens b e).nodes
nodes-stay b (event.Take s n) node lt = set-longer b.nodes n node (record { cube = cube_of b.nodes n; status = status.Held s }) lt
nodes-stay b (event.Split s n l) node lt =
    let forked : Node = record { cube = cube_of b.nodes n; status = status.Forked } in
    omega (
      arith,
      lt,
      length-set b.nodes n forked,
      length-append (set b.nodes n forked)
          (record { cube = cube_of b.nodes n ++ l ∷ []; status = status_of b.nodes n } ∷ record
          { cube = cube_of b.nodes n ++ complement l ∷ []; status = status.Open } ∷ []),
    )
nodes-stay b (event.Deliver s S) node lt = lt
nodes-stay b (event.Improve s S) node lt = lt
nodes-stay b (event.Close s n c) node lt = set-longer b.nodes n node (record { cube = cube_of b.nodes n; status = status.Closed }) lt
nodes-stay b (event.Release s n) node lt = set-longer b.nodes n node (record { cube = cube_of b.nodes n; status = status.Open }) lt
nodes-stay b (event.Lease s n) node lt = lt
nodes-stay b (event.Back s left burnt) node lt = lt

-- ---- the halves of a leaf
pub first-cube : (nodes : List Node) (n : ℕ) (l : Literal) → cube_of (split nodes n l) (length nodes) ≡ cube_of nodes n ++ l ∷ []
first-cube nodes n l =
    let forked : Node = record { cube = cube_of nodes n; status = status.Forked } in
    ap (λ k. cube_of (split nodes n l) k) (sym (length-set nodes n forked))
    ∙ ap (λ (x : Node). x.cube) (get_or-append_seam (set nodes n forked) (record { cube = cube_of nodes n ++ l ∷ []; status = status_of nodes n })
    (record { cube = cube_of nodes n ++ complement l ∷ []; status = status.Open } ∷ []) nowhere)

pub second-cube : (nodes : List Node) (n : ℕ) (l : Literal) → cube_of (split nodes n l) (length nodes + 1) ≡ cube_of nodes n ++ complement l ∷ []
second-cube nodes n l =
    let forked : Node = record { cube = cube_of nodes n; status = status.Forked } in
    ap (λ k. cube_of (split nodes n l) (k + 1)) (sym (length-set nodes n forked))
    ∙ ap (λ (x : Node). x.cube) (get_or-append-add (set nodes n forked)
    (record { cube = cube_of nodes n ++ l ∷ []; status = status_of nodes n } ∷ record
    { cube = cube_of nodes n ++ complement l ∷ []; status = status.Open } ∷ []) 1 nowhere)
