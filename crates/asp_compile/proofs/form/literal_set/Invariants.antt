use Rattle.std.proofs.Common.{◌≡◌, [], fold, take}
use Rattle.asp_vars.specs.Numbering.{with_literal}
use Rattle.asp_compile.proofs.form.literal_set.Given as goal

abbrev pub invariant-loop-literal : goal.invariant-loop-literal
invariant-loop-literal l = l.set.keys ≡ fold (λ ks l. with_literal l ks) [] (take l.literal-index l.literals)
