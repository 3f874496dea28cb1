use Rattle.std.proofs.Common.{◌≡◌, ℕ, ◌<◌, get_or, true}
use Rattle.asp_vars.specs.Literals.{Literal, holds_in}
use Rattle.asp_store.proofs.looks.first_open.Given as goal

abbrev pub invariant-loop-k : goal.invariant-loop-k
invariant-loop-k l = (j : ℕ) (d : Literal) → j < l.k-index → holds_in l.values (get_or l.lits j d) ≡ true
