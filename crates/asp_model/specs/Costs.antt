-- Costs, and the answers that no answer betters.
use Rattle.std.specs.Prelude.{◌≡◌, Bool, false, Contains, not, if◌then◌else◌, List, [], ◌∷◌, map, fold, filter, Option, None, Some, ℤ, pos, ◌+ℤ◌, int_lt}
use Rattle.std.specs.List.{list_any}
use Rattle.std.specs.Ordering.{int_cmp, int_eq, is_lt}
use Rattle.std.specs.Cmp.Lexicographic.{slice_cmp}
use Rattle.asp_model.specs.declared.program.Minimize.{Minimize}
use Rattle.asp_model.specs.declared.program.Program.{Program}
use Rattle.asp_model.specs.Sets.{Atoms}
use Rattle.asp_model.specs.Holding.{weight_of}
use Rattle.asp_model.specs.Models.{answers}

-- the priorities with q among them, the greatest first
abbrev pub with_priority : ℤ → List ℤ → List ℤ
with_priority q [] = q ∷ []
with_priority q (r ∷ rs) = if int_lt r q then q ∷ r ∷ rs else r ∷ (if int_lt q r then with_priority q rs else rs)

abbrev pub priorities : List Minimize → List ℤ
priorities statements = fold (λ qs m. with_priority m.priority qs) [] statements

-- the sum over a priority's statements of the weights of the literals that hold in S
abbrev pub cost_at : Atoms → List Minimize → ℤ → ℤ
cost_at S [] q = pos 0
cost_at S (m ∷ statements) q = (if int_eq m.priority q then weight_of S m.items else pos 0) +ℤ cost_at S statements q

-- one sum for each priority
abbrev pub cost : Program → Atoms → List ℤ
cost p S = map (cost_at S p.minimize) (priorities p.minimize)

-- At the first place where the costs differ, c has the smaller number.
abbrev pub betters : List ℤ → List ℤ → Bool
betters c d = is_lt (slice_cmp int_cmp c d)

-- the sums, the last of them raised by one
abbrev pub raised : List ℤ → List ℤ
raised [] = []
raised (q ∷ []) = (q +ℤ pos 1) ∷ []
raised (q ∷ r ∷ c) = q ∷ raised (r ∷ c)

-- the first cost behind c among those of as many sums; none where there are no sums
abbrev pub just_above : List ℤ → Option (List ℤ)
just_above [] = None
just_above (q ∷ c) = Some (raised (q ∷ c))

-- the answers whose cost no answer betters
abbrev pub optima : Program → List Atoms
optima p = filter (λ S. not (list_any (λ T. betters (cost p T) (cost p S)) (answers p))) (answers p)

-- S is an answer of cost c, and no answer betters c.
pub record IsOptimum (p : Program) (S : Atoms) (c : List ℤ) : Type 0 where
  pub answer : Contains (answers p) S
  pub sums : c ≡ cost p S
  pub least : list_any (λ T. betters (cost p T) c) (answers p) ≡ false
