use Rattle.std.proofs.Common.{◌≡◌, ◌-◌}
use Rattle.asp_read.specs.Fields.{passed_at}
use Rattle.asp_read.proofs.field.pass_literals.Given as goal

abbrev pub invariant-loop : goal.invariant-loop
invariant-loop l = passed_at (l.count - l.counter) l.rest ≡ passed_at l.count l.line
