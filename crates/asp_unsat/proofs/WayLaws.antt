-- What lies after the root's literals on the ways to the leaves covers each set once, whatever literals the root has.
use Rattle.std.proofs.Common.{◌≡◌, ℕ, suc, ◌+◌, ◌<◌, ◌≤◌, Bool, true, false, not, cond, ◌&&◌, List, [], ◌∷◌, ◌++◌, length, length-append, append-nil, drop, map, get_or, refl, sym, ap, ◌∙◌, arith, zero-add}
use Rattle.std.specs.Prelude.{count_by}
use Rattle.std.proofs.lemmas.Bool.{and_parts, false≢true}
use Rattle.std.proofs.lemmas.List.{drop-append-le, length-map}
use Rattle.std.proofs.lemmas.List.Sums.{sum_by-set, sum_by-append, sum_by-cons}
use Rattle.std.proofs.Math.Seq.{drop-append_seam}
use Rattle.asp_vars.specs.Literals.{Literal, complement, hits}
use Rattle.asp_vars.specs.Numbering.{literal_of}
use Rattle.asp_path.specs.declared.status.Status.{Status}
use Rattle.asp_path.specs.declared.status.Status.TheVariants as status
use Rattle.asp_path.specs.Trees.{Node, all_closed, cube_of, is_leaf, is_unclosed, nowhere, split, status_of, with_status}
use Rattle.asp_path.proofs.TreeLaws.{hit-split, leaf-within}
use Rattle.asp_core.specs.declared.event.Event.{Event}
use Rattle.asp_core.specs.declared.event.Event.TheVariants as event
use Rattle.asp_core.specs.declared.task.Task.{Task}
use Rattle.asp_core.specs.Boards.{Board, start, wanted}
use Rattle.asp_core.specs.Events.{Guard, happens, run, IsLawful}
use Rattle.asp_core.specs.Invariant.{IsBoard}
use Rattle.asp_core.proofs.BoardLaws.{IsBoard-happens}
use Rattle.asp_core.proofs.CubeLaws.{cube-at}

-- ---- what a list of nodes hits, where the first literals of each cube don't count
module _ (v : List Bool) (k : ℕ) where
  abbrev at_leaf : Node → ℕ
  at_leaf n = cond (is_leaf n.status && hits v (drop k n.cube)) 1 0

  -- how many leaves are hit
  abbrev pub ways_hit : List Node → ℕ
  ways_hit nodes = count_by (λ n. is_leaf n.status && hits v (drop k n.cube)) nodes

  one_leaf : (n : Node) → is_leaf n.status ≡ true → (let a : ℕ = at_leaf n in let b : ℕ = cond (hits v (drop k n.cube)) 1 0 in a ≡ b)
  one_leaf n h = ap (λ b. let a : ℕ = cond (b && hits v (drop k n.cube)) 1 0 in a) h

  pub ways-status : (nodes : List Node) (n : ℕ) (s : Status) → is_leaf (status_of nodes n) ≡ true → is_leaf s ≡ true → ways_hit (with_status nodes n s) ≡ ways_hit nodes
  ways-status nodes n s was is =
      let old : Node = get_or nodes n nowhere in
      let new : Node = record { cube = cube_of nodes n; status = s } in
      let e = sum_by-set at_leaf nodes n new nowhere (leaf-within nodes n was) in
      omega (arith, e, one_leaf old was, one_leaf new is)

  cut_push : (c : List Literal) (l : Literal) → k ≤ length c → drop k (c ++ l ∷ []) ≡ drop k c ++ l ∷ []
  cut_push c l le = drop-append-le k c (l ∷ []) le

  pub ways-split : (nodes : List Node) (n : ℕ) (l : Literal) → is_leaf (status_of nodes n) ≡ true → k ≤ length (cube_of nodes n) → ways_hit (split nodes n l) ≡ ways_hit nodes
  ways-split nodes n l was le =
      let c : List Literal = cube_of nodes n in
      let forked : Node = record { cube = c; status = status.Forked } in
      let first : Node = record { cube = c ++ l ∷ []; status = status_of nodes n } in
      let second : Node = record { cube = c ++ complement l ∷ []; status = status.Open } in
      let e = sum_by-set at_leaf nodes n forked nowhere (leaf-within nodes n was) in
      let a = sum_by-append at_leaf (with_status nodes n status.Forked) (first ∷ second ∷ []) in
      let one = ap (λ (x : List Literal). let b : ℕ = cond (hits v x) 1 0 in b) (cut_push c l le) in
      let other = ap (λ (x : List Literal). let b : ℕ = cond (hits v x) 1 0 in b) (cut_push c (complement l) le) in
      omega (arith, e, a, one_leaf (get_or nodes n nowhere) was, one_leaf first was, one, other, hit-split v (drop k c) l)

-- ---- the same of boards
-- how many literals the root has
abbrev pub root_length : Board → ℕ
root_length b = length (wanted b.task)

module _ (v : List Bool) where
  cube-length : (b : Board) (n : ℕ) → IsBoard b → is_leaf (status_of b.nodes n) ≡ true → root_length b ≤ length (cube_of b.nodes n)
  cube-length b n is was =
      let c = cube-at b.task b.nodes n (leaf-within b.nodes n was) is.cubes in
      let e = ap length c.begins.1 in
      omega (arith, sym (length-append (map (literal_of b.task.program) (wanted b.task)) c.begins.0), e, length-map (wanted b.task) (literal_of b.task.program))

  ways-happens : (b : Board) (e : Event) → IsBoard b → Guard b e → ways_hit v (root_length b) (happens b e).nodes ≡ ways_hit v (root_length b) b.nodes
  ways-happens b (event.Take s leaf) is g = ways-status v (root_length b) b.nodes leaf (status.Held s) (ap is_leaf g.0) refl
  ways-happens b (event.Split s leaf l) is g = ways-split v (root_length b) b.nodes leaf l (ap is_leaf g.0) (cube-length b leaf is (ap is_leaf g.0))
  ways-happens b (event.Deliver s S) is g = refl
  ways-happens b (event.Improve s S) is g = refl
  ways-happens b (event.Close s leaf n) is g = ways-status v (root_length b) b.nodes leaf status.Closed (ap is_leaf g.0) refl
  ways-happens b (event.Release s leaf) is g = ways-status v (root_length b) b.nodes leaf status.Open (ap is_leaf g) refl
  ways-happens b (event.Lease s n) is g = refl
  ways-happens b (event.Back s left burnt) is g = refl

  root-happens : (b : Board) (e : Event) → root_length (happens b e) ≡ root_length b
  root-happens b (event.Take s leaf) = refl
  root-happens b (event.Split s leaf l) = refl
  root-happens b (event.Deliver s S) = refl
  root-happens b (event.Improve s S) = refl
  root-happens b (event.Close s leaf n) = refl
  root-happens b (event.Release s leaf) = refl
  root-happens b (event.Lease s n) = refl
  root-happens b (event.Back s left burnt) = refl

  ways-run : (b : Board) (journal : List Event) → IsBoard b → IsLawful b journal → ways_hit v (root_length b) (run b journal).nodes ≡ ways_hit v (root_length b) b.nodes
  ways-run b [] is lawful = refl
  ways-run b (e ∷ journal) is lawful =
      ap (λ (k : ℕ). ways_hit v k (run (happens b e) journal).nodes) (sym (root-happens b e))
      ∙ ways-run (happens b e) journal (IsBoard-happens b e is lawful.0) lawful.1
      ∙ ap (λ (k : ℕ). ways_hit v k (happens b e).nodes) (root-happens b e)
      ∙ ways-happens b e is lawful.0

  nothing-left : (xs : List Literal) (k : ℕ) → k ≡ length xs → drop k xs ≡ []
  nothing-left xs k e = rw e (ap (λ (t : List Literal). drop (length xs) t) (sym (append-nil xs)) ∙ drop-append_seam xs [])

  ways-start : (t : Task) → ways_hit v (length (wanted t)) (start t).nodes ≡ 1
  ways-start t =
      let c : List Literal = map (literal_of t.program) (wanted t) in
      let e = nothing-left c (length (wanted t)) (sym (length-map (wanted t) (literal_of t.program))) in
      zero-add (cond (hits v (drop (length (wanted t)) c)) 1 0) ∙ ap (λ (x : List Literal). let b : ℕ = cond (hits v x) 1 0 in b) e

  pub ways-replay : (t : Task) (journal : List Event) → IsBoard (start t) → IsLawful (start t) journal → ways_hit v (length (wanted t)) (run (start t) journal).nodes ≡ 1
  ways-replay t journal is lawful = ways-run (start t) journal is lawful ∙ ways-start t

-- ---- the leaf that is hit
closed_leaf : (s : Status) → is_leaf s ≡ true → not (is_unclosed s) ≡ true → s ≡ status.Closed
closed_leaf status.Open h n = absurd (false≢true n)
closed_leaf (status.Held t) h n = absurd (false≢true n)
closed_leaf status.Closed h n = refl
closed_leaf status.Forked h n = absurd (false≢true h)

-- a closed leaf whose way is hit
pub record HitLeaf (v : List Bool) (k : ℕ) (nodes : List Node) : Type 0 where
  pub leaf : ℕ
  pub closed : status_of nodes leaf ≡ status.Closed
  pub hit : hits v (drop k (cube_of nodes leaf)) ≡ true

pub hit-leaf : (v : List Bool) (k : ℕ) (nodes : List Node) → all_closed nodes ≡ true → 0 < ways_hit v k nodes → HitLeaf v k nodes
hit-leaf v k [] closed some = absurd (omega arith)
hit-leaf v k (n ∷ nodes) closed some =
    let parts = and_parts (not (is_unclosed n.status)) (all_closed nodes) closed in
    here (is_leaf n.status && hits v (drop k n.cube)) refl parts.0 (sum_by-cons (λ (x : Node). cond (is_leaf x.status && hits v (drop k x.cube)) 1 0) n nodes)
    (hit-leaf v k nodes parts.1)
  where
    here : (x : Bool) → x ≡ (is_leaf n.status && hits v (drop k n.cube)) → not (is_unclosed n.status) ≡ true →
        ways_hit v k (n ∷ nodes) ≡ cond (is_leaf n.status && hits v (drop k n.cube)) 1 0 + ways_hit v k nodes →
        (0 < ways_hit v k nodes → HitLeaf v k nodes) → HitLeaf v k (n ∷ nodes)
    here true q shut e rest =
        let hit = and_parts (is_leaf n.status) (hits v (drop k n.cube)) (sym q) in
        record { leaf = 0; closed = closed_leaf n.status hit.0 shut; hit = hit.1 }
    here false q shut e rest =
        let l = rest (omega (arith, e, some, ap (λ x. let k : ℕ = cond x 1 0 in k) q)) in
        record { leaf = suc l.leaf; closed = l.closed; hit = l.hit }
