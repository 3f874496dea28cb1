use Rattle.std.proofs.Common.{◌≡◌, ◌++◌, flat_map, take}
use Rattle.asp_make.specs.Texts.{line, rule_text}
use Rattle.asp_make.proofs.written.write_rules.Given as goal

abbrev pub invariant-loop-i : goal.invariant-loop-i
invariant-loop-i l = l.out.items ≡ l.initial.out.items ++ flat_map (λ r. line (rule_text r)) (take l.i l.rules)
