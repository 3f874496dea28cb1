use Rattle.std.proofs.Common.{◌≡◌, true, not, take}
use Rattle.std.specs.Prelude.{is_none}
use Rattle.std.specs.List.{list_all}
use Rattle.asp_vars.specs.Literals.{value_of}
use Rattle.asp_member.proofs.stable.have_values.Given as goal

abbrev pub invariant-loop-var : goal.invariant-loop-var
invariant-loop-var l = list_all (λ v. not (is_none (value_of l.values v))) (take l.var-index l.heads) ≡ true
