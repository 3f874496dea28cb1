use Rattle.std.proofs.Common.{◌≡◌, take}
use Rattle.asp_scc.specs.Numbers.{numbers_from}
use Rattle.asp_scc.proofs.numbers.read_numbers.Given as goal

abbrev pub invariant-loop-class : goal.invariant-loop-class
invariant-loop-class l = l.numbers.items ≡ numbers_from l.given (take l.class-index l.classes)
