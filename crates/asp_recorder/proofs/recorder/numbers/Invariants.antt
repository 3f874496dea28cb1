use Rattle.std.proofs.Common.{◌≡◌, map, take}
use Rattle.asp_recorder.specs.Numbers.{number_of}
use Rattle.asp_recorder.proofs.recorder.numbers.Given as goal

abbrev pub invariant-loop-lit : goal.invariant-loop-lit
invariant-loop-lit l = l.numbers.items ≡ map number_of (take l.lit-index l.lits)
