-- What unit propagation gives, where some nogoods and a bound are known. No rule of it is listed: a literal is implied exactly where its complement, as one value more, makes a conflict.
use Rattle.std.specs.Prelude.{◌≡◌, ℕ, ◌+◌, ◌<◌, ◌≤◌, Bool, false, not, ◌||◌, ◌&&◌, if◌then◌else◌, List, [], ◌∷◌, length, Option, Some, None, ℤ, pos, ◌+ℤ◌, int_lt, int_le, slice_set}
use Rattle.std.specs.List.{list_all, list_any}
use Rattle.asp_model.specs.declared.program.Body.{Body}
use Rattle.asp_model.specs.declared.program.Body.TheVariants as body
use Rattle.asp_model.specs.declared.program.Program.{Program}
use Rattle.asp_model.specs.Costs.{betters}
use Rattle.asp_vars.specs.Literals.{Literal, T, F, complement, value_of, holds_in}
use Rattle.asp_vars.specs.Numbering.{bodies_of, var_count, var_of_form, literal_of}
use Rattle.asp_bound.specs.Optimism.{optimistic}

-- the nogoods, and the cost that is to be bettered
pub record Known : Type 0 where
  pub nogoods : List (List Literal)
  pub bound : Option (List ℤ)

-- the literal isn't false
abbrev pub may_hold : List (Option Bool) → Literal → Bool
may_hold x l = not (holds_in x (complement l))

-- the sum of the weights of the literals that pass a test
abbrev pub weight_by : (Literal → Bool) → Program → List (ℤ × ℤ) → ℤ
weight_by t p [] = pos 0
weight_by t p (i ∷ items) = (if t (literal_of p i.0) then i.1 else pos 0) +ℤ weight_by t p items

-- A weight body is true and can't reach its bound any more, or it is false and has reached it.
abbrev pub is_broken : Program → List (Option Bool) → Body → Bool
is_broken p x (body.All literals) = false
is_broken p x (body.AtLeast bound items) =
    (holds_in x (T (var_of_form p (body.AtLeast bound items))) && int_lt (weight_by (may_hold x) p items) bound)
    || (holds_in x (F (var_of_form p (body.AtLeast bound items))) && int_le bound (weight_by (holds_in x) p items))

-- There is a bound, and the optimistic cost isn't smaller.
abbrev pub reaches_bound : Program → Option (List ℤ) → List (Option Bool) → Bool
reaches_bound p None x = false
reaches_bound p (Some c) x = not (betters (optimistic p x) c)

-- The values are in conflict: they hit a nogood, break a weight body or reach the bound.
abbrev pub has_conflict : Program → Known → List (Option Bool) → Bool
has_conflict p k x = list_any (λ n. list_all (holds_in x) n) k.nogoods || list_any (is_broken p x) (bodies_of p) || reaches_bound p k.bound x

-- Unit propagation adds nothing to the values: they aren't in conflict, nor are they with one value more.
pub record IsPropagated (p : Program) (k : Known) (x : List (Option Bool)) : Type 0 where
  pub size : length x ≡ var_count p + 1
  pub now : has_conflict p k x ≡ false
  pub one_more : (v : ℕ) (b : Bool) → 0 < v → v ≤ var_count p → value_of x v ≡ None → has_conflict p k (slice_set x v (Some b)) ≡ false

-- Unit propagation from the literals leads to a conflict: no values to which it adds nothing make all of them hold.
pub record LeadsToConflict (p : Program) (k : Known) (n : List Literal) : Type 0 where
  pub none : (x : List (Option Bool)) → IsPropagated p k x → list_all (holds_in x) n ≡ false
