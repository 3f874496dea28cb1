use Rattle.std.proofs.Common.{length}
use Rattle.asp_cli.proofs.hints.+is_two_off.Given as goal

abbrev pub decreases-is_two_off : goal.decreases-is_two_off
decreases-is_two_off l = length l.left.now
