use Rattle.std.proofs.Common.{◌≡◌, take}
use Rattle.asp_model.proofs.rules.Rules.from_slice.Given as goal

abbrev pub invariant-loop-rule : goal.invariant-loop-rule
invariant-loop-rule l = l.same ≡ take l.rule-index l.rules
