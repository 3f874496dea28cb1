use Rattle.std.proofs.Common.{◌-◌, length}
use Rattle.asp_order.proofs.sift.+sink.Given as goal

abbrev pub decreases-sink : goal.decreases-sink
decreases-sink l = length l.items.now - l.at
