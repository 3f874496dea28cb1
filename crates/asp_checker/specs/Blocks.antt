-- What weight bodies and a bound say under values.
use Rattle.std.specs.Prelude.{◌≡◌, ℕ, zero, suc, ◌+◌, ◌*◌, ◌<◌, ◌≤◌, Bool, true, false, not, ◌||◌, if◌then◌else◌, List, [], ◌∷◌, ◌++◌, map, length, Option, Some, None, ℤ, pos, ◌+ℤ◌, slice_index_or, slice_set}
use Rattle.std.specs.List.{list_any}
use Rattle.std.specs.Ordering.{int_eq}
use Rattle.asp_model.specs.declared.program.Program.{Program}
use Rattle.asp_model.specs.Costs.{priorities}
use Rattle.asp_model.specs.Sets.{Atoms}
use Rattle.asp_vars.specs.Literals.{Literal, value_of}
use Rattle.asp_vars.specs.Numbering.{bodies_of, var_count}
use Rattle.asp_bound.specs.Optimism.{items_at, least, sum_to}
use Rattle.asp_bound.specs.Weights.{AreWeights}
use Rattle.asp_checker.specs.declared.bounds.Bound.{Bound}
use Rattle.asp_checker.specs.declared.nogoods.Visit.{Visit}
use Rattle.asp_checker.specs.declared.nogoods.Visit.TheVariants as visit
use Rattle.asp_checker.specs.Propagation.{Known, is_broken, reaches_bound, IsPropagated, LeadsToConflict}
use Rattle.asp_checker.specs.Lines.{nogood_of_answer}
use Rattle.asp_checker.specs.Steps.{AreWithin, Follow}
use Rattle.asp_checker.specs.Sweeps.{open_count}

-- A weight body is broken, or the bound is reached.
abbrev pub is_blocked : Program → Option (List ℤ) → List (Option Bool) → Bool
is_blocked p bound x = list_any (is_broken p x) (bodies_of p) || reaches_bound p bound x

-- ---- a bound with the weights at each priority
-- the sum at a priority, by the weights of its literals
abbrev pub level_sum : List (Option Bool) → ℕ → List ℤ → ℤ
level_sum x n weights = sum_to (λ v. least (value_of x v) (slice_index_or weights (2 * v) (pos 0)) (slice_index_or weights (2 * v + 1) (pos 0))) n

-- a literal of the variable weighs something, by the weights of all
abbrev pub weighs : List ℤ → ℕ → Bool
weighs weights v = not (int_eq (slice_index_or weights (2 * v) (pos 0)) (pos 0)) || not (int_eq (slice_index_or weights (2 * v + 1) (pos 0)) (pos 0))

-- at one of the priorities
abbrev pub is_priced : List (List ℤ) → ℕ → Bool
is_priced levels v = list_any (λ w. weighs w v) levels

-- the variables from 1 to n that weigh something at one of the priorities
abbrev pub priced_to : List (List ℤ) → ℕ → List ℕ
priced_to levels zero = []
priced_to levels (suc n) = if is_priced levels (suc n) then priced_to levels n ++ suc n ∷ [] else priced_to levels n

-- the sum at a priority over these variables
abbrev pub sum_over : List (Option Bool) → List ℤ → List ℕ → ℤ
sum_over x weights [] = pos 0
sum_over x weights (v ∷ vars) = least (value_of x v) (slice_index_or weights (2 * v) (pos 0)) (slice_index_or weights (2 * v + 1) (pos 0)) +ℤ sum_over x weights vars

-- the weights of all literals, priority by priority
abbrev pub AreLevels : Program → List ℤ → List (List ℤ) → Type 0
AreLevels p [] levels = levels ≡ []
AreLevels p (q ∷ qs) [] = ⊥
AreLevels p (q ∷ qs) (weights ∷ levels) = AreWeights p (items_at p.minimize q) weights × AreLevels p qs levels

-- The bound's weights are the program's, and its variables those that weigh something.
abbrev pub HasLevels : Program → Option Bound → Type 0
HasLevels p None = Unit {0}
HasLevels p (Some b) = AreLevels p (priorities p.minimize) b.levels × ((length b.cost ≡ length b.levels) × (b.priced ≡ priced_to b.levels (var_count p)))

abbrev pub cost_of_bound : Option Bound → Option (List ℤ)
cost_of_bound None = None
cost_of_bound (Some b) = Some b.cost

-- what is known by these nogoods and this bound
abbrev pub known_by : List (List Literal) → Option Bound → Known
known_by rows bound = record { nogoods = rows; bound = cost_of_bound bound }

-- the same, and the nogoods of these answers
abbrev pub known_with : Program → List Atoms → List (List Literal) → Option Bound → Known
known_with p listed rows bound = known_by (map (nogood_of_answer p) listed ++ rows) bound

-- ---- steps
-- The values y follow from whatever x follow from, and have those of x.
pub record Extends (p : Program) (k : Known) (x y : List (Option Bool)) : Type 0 where
  pub size : length y ≡ length x
  pub within : AreWithin x y
  pub follow : (n : List Literal) → Follow p k n x → Follow p k n y

-- Whatever literals the values follow from, unit propagation from them leads to a conflict.
pub record AreRefuted (p : Program) (k : Known) (x : List (Option Bool)) : Type 0 where
  pub conflict : (n : List Literal) → Follow p k n x → LeadsToConflict p k n

-- a value that a weight body or the bound implies
pub record IsImplied (p : Program) (bound : Option (List ℤ)) (x : List (Option Bool)) (l : Literal) : Type 0 where
  pub var : 0 < l.var
  pub of : l.var ≤ var_count p
  pub no_value : value_of x l.var ≡ None
  pub blocked : is_blocked p bound (slice_set x l.var (Some (not l.truth))) ≡ true

-- no value of the first variables is implied by a weight body or the bound
pub record AreFree (p : Program) (bound : Option (List ℤ)) (x : List (Option Bool)) (n : ℕ) : Type 0 where
  pub free : (v : ℕ) (b : Bool) → 0 < v → v ≤ n → value_of x v ≡ None → is_blocked p bound (slice_set x v (Some b)) ≡ false

-- what a look at the weight bodies and the bound came to
abbrev pub IsFound : Program → Known → List (Option Bool) → List (Option Bool) → Visit → Type 0
IsFound p k x y visit.Conflict = AreRefuted p k x
IsFound p k x y visit.Implied = Extends p k x y × (open_count y < open_count x)
IsFound p k x y visit.Fixpoint = (y ≡ x) × (is_blocked p k.bound x ≡ false) × AreFree p k.bound x (var_count p)

-- what a step came to
abbrev pub IsStep : Program → Known → List (Option Bool) → List (Option Bool) → Visit → Type 0
IsStep p k x y visit.Conflict = AreRefuted p k x
IsStep p k x y visit.Implied = Extends p k x y × (open_count y < open_count x)
IsStep p k x y visit.Fixpoint = (y ≡ x) × IsPropagated p k x
