use Rattle.std.proofs.Common.{◌≡◌, ◌++◌, take}
use Rattle.asp_compile.proofs.form.add_literals.Given as goal

abbrev pub invariant-loop-literal : goal.invariant-loop-literal
invariant-loop-literal l = l.key.items ≡ l.initial.key.items ++ take l.literal-index l.literals
