-- What the sets that agree with some values cost at least.
use Rattle.std.specs.Prelude.{ℕ, zero, suc, Bool, true, false, if◌then◌else◌, List, [], ◌∷◌, ◌++◌, map, Option, Some, None, ℤ, pos, ◌+ℤ◌}
use Rattle.std.specs.Int.{int_min}
use Rattle.std.specs.Ordering.{int_eq}
use Rattle.asp_model.specs.declared.program.Minimize.{Minimize}
use Rattle.asp_model.specs.declared.program.Program.{Program}
use Rattle.asp_model.specs.Sets.{Atoms}
use Rattle.asp_model.specs.Models.{atoms_of}
use Rattle.asp_model.specs.Costs.{priorities}
use Rattle.asp_vars.specs.Literals.{Literal, T, F, literal_eq, value_of}
use Rattle.asp_vars.specs.Numbering.{literal_in, var_count}

-- the items of the statements at a priority
abbrev pub items_at : List Minimize → ℤ → List (ℤ × ℤ)
items_at [] q = []
items_at (m ∷ ms) q = (if int_eq m.priority q then m.items else []) ++ items_at ms q

-- a literal's weight, each time that it is listed
abbrev pub weight_in : Atoms → List (ℤ × ℤ) → Literal → ℤ
weight_in atoms [] l = pos 0
weight_in atoms (i ∷ items) l = (if literal_eq (literal_in atoms i.0) l then i.1 else pos 0) +ℤ weight_in atoms items l

abbrev pub weight_at : Program → ℤ → Literal → ℤ
weight_at p q l = weight_in (atoms_of p) (items_at p.minimize q) l

-- What a variable costs at least: t where it is true, f where it is false, and without a value the lesser of them.
abbrev pub least : Option Bool → ℤ → ℤ → ℤ
least None t f = int_min t f
least (Some true) t f = t
least (Some false) t f = f

-- the sum over the numbers from 1 to n
abbrev pub sum_to : (ℕ → ℤ) → ℕ → ℤ
sum_to f zero = pos 0
sum_to f (suc n) = sum_to f n +ℤ f (suc n)

abbrev pub least_at : Program → List (Option Bool) → ℤ → ℕ → ℤ
least_at p a q v = least (value_of a v) (weight_at p q (T v)) (weight_at p q (F v))

-- at a priority, what the variables cost at least
abbrev pub optimistic_at : Program → List (Option Bool) → ℤ → ℤ
optimistic_at p a q = sum_to (least_at p a q) (var_count p)

-- the optimistic cost, the greatest priority first
abbrev pub optimistic : Program → List (Option Bool) → List ℤ
optimistic p a = map (optimistic_at p a) (priorities p.minimize)
