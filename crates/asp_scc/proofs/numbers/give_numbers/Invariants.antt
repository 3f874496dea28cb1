use Rattle.std.proofs.Common.{◌≡◌, ◌≤◌, take}
use Rattle.std.specs.Prelude.{fold}
use Rattle.asp_scc.specs.Numbers.{give_number}
use Rattle.asp_scc.proofs.numbers.give_numbers.Given as goal

abbrev pub invariant-loop-class : goal.invariant-loop-class
invariant-loop-class l =
    (l.count ≤ l.class-index) × ((l.given, l.count) ≡ fold give_number (l.initial.given, 0) (take l.class-index l.classes))
