use Rattle.std.proofs.Common.{length}
use Rattle.asp_cli.proofs.found.+first_given.Given as goal

abbrev pub decreases-first_given : goal.decreases-first_given
decreases-first_given l = length l.names.now
