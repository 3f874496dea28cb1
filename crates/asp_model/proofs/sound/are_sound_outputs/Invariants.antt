use Rattle.std.proofs.Common.{◌≡◌, true, take}
use Rattle.std.specs.List.{list_all}
use Rattle.asp_model.specs.Sound.{is_sound_output}
use Rattle.asp_model.proofs.sound.are_sound_outputs.Given as goal

abbrev pub invariant-loop-i : goal.invariant-loop-i
invariant-loop-i l = list_all is_sound_output (take l.i l.outputs) ≡ true
