use Rattle.std.proofs.Common.{◌≡◌, true, take}
use Rattle.std.specs.List.{list_all}
use Rattle.asp_model.specs.Sound.{is_sound_rule}
use Rattle.asp_model.proofs.sound.are_sound_rules.Given as goal

abbrev pub invariant-loop-i : goal.invariant-loop-i
invariant-loop-i l = list_all is_sound_rule (take l.i l.rules) ≡ true
