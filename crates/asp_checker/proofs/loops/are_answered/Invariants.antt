use Rattle.std.proofs.Common.{◌≡◌, true, take}
use Rattle.std.specs.List.{list_all}
use Rattle.asp_model.specs.Models.{rules_in_force}
use Rattle.asp_checker.specs.Loops.{is_answered_rule}
use Rattle.asp_checker.proofs.loops.are_answered.Given as goal

abbrev pub invariant-loop-rule : goal.invariant-loop-rule
invariant-loop-rule l = list_all (is_answered_rule l.compiled l.set l.nogood) (take l.rule (rules_in_force l.compiled)) ≡ true
