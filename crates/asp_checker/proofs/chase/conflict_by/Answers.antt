use Rattle.std.proofs.Common.{refl}
use Rattle.asp_checker.specs.Blocks.{known_by}
use Rattle.asp_checker.proofs.CloseLaws.{found_conflict}
use Rattle.asp_checker.proofs.chase.conflict_by.Goals as goal

pub returns-then-is_blocked_by : goal.returns-then-is_blocked_by
returns-then-is_blocked_by c = λ rows. (found_conflict c.args.compiled.now (known_by rows c.args.bound.now) c.args.values.now c.program-program.ensures.sound (c.if-is_blocked_by.ensures refl), refl)
