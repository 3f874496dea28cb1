use Rattle.std.proofs.Common.{◌≡◌, ◌++◌, take, map}
use Rattle.asp_model.proofs.atoms.push_externals.Given as goal

abbrev pub invariant-loop-external : goal.invariant-loop-external
invariant-loop-external l = l.atoms.items ≡ l.initial.atoms.items ++ map (λ e. e.atom) (take l.external-index l.externals)
