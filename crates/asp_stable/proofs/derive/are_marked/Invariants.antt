use Rattle.std.proofs.Common.{◌≡◌, true, take}
use Rattle.std.specs.Prelude.{All}
use Rattle.asp_vars.specs.Literals.{T, holds_in}
use Rattle.asp_found.specs.Marks.{is_marked}
use Rattle.asp_stable.proofs.derive.are_marked.Given as goal

abbrev pub invariant-loop-var : goal.invariant-loop-var
invariant-loop-var l = All (λ v. holds_in l.assign (T v) ≡ true → is_marked l.marks v ≡ true) (take l.var-index l.vars)
