use Rattle.std.proofs.Common.{◌≡◌, ℕ, ◌<◌, get_or, false}
use Rattle.asp_vars.specs.Literals.{Literal, literal_eq}
use Rattle.asp_store.proofs.rows.place_of.Given as goal

abbrev pub invariant-loop-i : goal.invariant-loop-i
invariant-loop-i l = (j : ℕ) (d : Literal) → j < l.i → literal_eq (get_or l.row j d) l.lit ≡ false
