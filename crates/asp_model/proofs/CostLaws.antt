-- Costs along loops.
use Rattle.std.proofs.Common.{◌≡◌, ℕ, ◌+◌, ◌<◌, cond, List, [], ◌∷◌, ◌++◌, length, get_or, take, ℤ, pos, ◌+ℤ◌, int_eq, sum_by, sym, ap, ◌∙◌, arith}
use Rattle.std.proofs.lemmas.Int.{ints}
use Rattle.std.proofs.lemmas.List.Sums.{sum_by_more}
use Rattle.std.proofs.lemmas.List.{take_more, length-map}
use Rattle.asp_model.specs.declared.program.Minimize.{Minimize}
use Rattle.asp_model.specs.declared.program.Program.{Program}
use Rattle.asp_model.specs.Sets.{Atoms}
use Rattle.asp_model.specs.Holding.{weight_of}
use Rattle.asp_model.specs.Costs.{priorities, cost_at, cost}

pub cost_at_push : (S : Atoms) (q : ℤ) (ms : List Minimize) (m : Minimize) → cost_at S (ms ++ m ∷ []) q ≡ cost_at S ms q +ℤ cond (int_eq m.priority q) (weight_of S m.items) (pos 0)
cost_at_push S q [] m = omega (arith, ints)
cost_at_push S q (n ∷ ms) m = omega (arith, ints, cost_at_push S q ms m)

-- x is the statement at i
pub cost_at_more : (S : Atoms) (q : ℤ) (ms : List Minimize) (i : ℕ) (x : Minimize) → i < length ms → x ≡ get_or ms i x →
    cost_at S (take (i + 1) ms) q ≡ cost_at S (take i ms) q +ℤ cond (int_eq x.priority q) (weight_of S x.items) (pos 0)
cost_at_more S q ms i x lt is =
    ap (λ ns. cost_at S ns q) (take_more ms i x lt ∙ ap (λ m. take i ms ++ m ∷ []) (sym is)) ∙ cost_at_push S q (take i ms) x

pub items_more : (ms : List Minimize) (i : ℕ) (x : Minimize) → i < length ms → x ≡ get_or ms i x →
    sum_by (λ m. length m.items) (take (i + 1) ms) ≡ sum_by (λ m. length m.items) (take i ms) + length x.items
items_more ms i x lt is =
    sum_by_more (λ (m : Minimize). length m.items) ms i x lt ∙ ap (λ (m : Minimize). sum_by (λ m'. length m'.items) (take i ms) + length m.items) (sym is)

pub length-cost : (p : Program) (S T : Atoms) → length (cost p S) ≡ length (cost p T)
length-cost p S T = length-map (priorities p.minimize) (cost_at S p.minimize) ∙ sym (length-map (priorities p.minimize) (cost_at T p.minimize))
