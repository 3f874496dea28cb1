use Rattle.std.proofs.Common.{◌^◌, ◌<◌}
use Rattle.asp_text.specs.Front.{Spells}
use Rattle.asp_text.proofs.numbers.front_digits.Given as goal

abbrev pub invariant-loop-count : goal.invariant-loop-count
invariant-loop-count l = record {
  spells : Spells l.text l.count l.value;
  bound : l.value < 10 ^ 18;
}
