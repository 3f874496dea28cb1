-- How many leaves are held after an event.
use Rattle.std.proofs.Common.{◌≡◌, ℕ, ◌+◌, ◌<◌, true, cond, List, [], ◌∷◌, ◌++◌, length, ap, ◌∙◌, arith}
use Rattle.std.proofs.lemmas.List.Sums.{sum_by-set, sum_by-append}
use Rattle.asp_vars.specs.Literals.{Literal, complement}
use Rattle.asp_path.specs.declared.status.Status.{Status}
use Rattle.asp_path.specs.declared.status.Status.TheVariants as status
use Rattle.asp_path.specs.Trees.{Node, is_leaf, is_held, nowhere, cube_of, status_of, with_status, split, held_count}
use Rattle.asp_path.proofs.TreeLaws.{leaf-within}

held_count-set : (nodes : List Node) (n : ℕ) (new : Status) → n < length nodes →
    held_count (with_status nodes n new) + cond (is_held (status_of nodes n)) 1 0 ≡ held_count nodes + cond (is_held new) 1 0
held_count-set nodes n new lt = sum_by-set (λ (x : Node). cond (is_held x.status) 1 0) nodes n (record { cube = cube_of nodes n; status = new }) nowhere lt

-- a leaf's status changes from the one to the other
pub held_count-changed : (nodes : List Node) (n : ℕ) (old new : Status) → status_of nodes n ≡ old → is_leaf old ≡ true →
    held_count (with_status nodes n new) + cond (is_held old) 1 0 ≡ held_count nodes + cond (is_held new) 1 0
held_count-changed nodes n old new was leaf =
    omega (arith, held_count-set nodes n new (leaf-within nodes n (ap is_leaf was ∙ leaf)), ap (λ s. let k : ℕ = cond (is_held s) 1 0 in k) was)

pub held_count-split : (nodes : List Node) (n s : ℕ) (l : Literal) → status_of nodes n ≡ status.Held s → held_count (split nodes n l) ≡ held_count nodes
held_count-split nodes n s l was =
    let f : Node → ℕ = λ x. cond (is_held x.status) 1 0 in
    let e = sum_by-set f nodes n (record { cube = cube_of nodes n; status = status.Forked }) nowhere (leaf-within nodes n (ap is_leaf was)) in
    let a = sum_by-append f (with_status nodes n status.Forked)
    (record { cube = cube_of nodes n ++ l ∷ []; status = status_of nodes n } ∷ record
    { cube = cube_of nodes n ++ complement l ∷ []; status = status.Open } ∷ []) in
    omega (arith, e, a)
