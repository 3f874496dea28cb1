use Rattle.std.proofs.Common.{◌≡◌, ℕ, ◌<◌, ◌≤◌, get_or, true}
use Rattle.asp_vars.specs.Literals.{complement, holds_in}
use Rattle.asp_store.specs.Marks.{Watch}
use Rattle.asp_store.proofs.top_walks.first_unblocked.Given as goal

abbrev pub invariant-loop-i : goal.invariant-loop-i
invariant-loop-i l = (k : ℕ) (d : Watch) → l.start ≤ k → k < l.i → holds_in l.values (complement (get_or l.list k d).blocker) ≡ true
