use Rattle.std.proofs.Common.{length}
use Rattle.asp_cli.proofs.hints.+is_one_off.Given as goal

abbrev pub decreases-is_one_off : goal.decreases-is_one_off
decreases-is_one_off l = length l.left.now
