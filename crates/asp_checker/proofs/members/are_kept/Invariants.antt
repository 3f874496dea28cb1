use Rattle.std.proofs.Common.{◌≡◌, true, take}
use Rattle.std.specs.List.{list_all}
use Rattle.asp_model.specs.Models.{rules_in_force}
use Rattle.asp_member.specs.Founding.{keeps}
use Rattle.asp_checker.proofs.members.are_kept.Given as goal

abbrev pub invariant-loop-rule : goal.invariant-loop-rule
invariant-loop-rule l = list_all (keeps l.compiled l.set l.values) (take l.rule (rules_in_force l.compiled)) ≡ true
