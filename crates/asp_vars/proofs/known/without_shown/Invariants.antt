use Rattle.std.proofs.Common.{◌≡◌, not, take, filter}
use Rattle.asp_model.specs.Consequences.{shows}
use Rattle.asp_vars.proofs.known.without_shown.Given as goal

abbrev pub invariant-loop-atom : goal.invariant-loop-atom
invariant-loop-atom l = l.left.items ≡ filter (λ a. not (shows l.reasoning l.set a)) (take l.atom-index l.atoms)
