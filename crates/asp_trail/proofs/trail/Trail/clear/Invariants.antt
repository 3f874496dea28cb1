use Rattle.std.proofs.Common.{◌≡◌, ◌≤◌, length}
use Rattle.asp_trail.proofs.trail.Trail.clear.Given as goal

abbrev pub invariant-loop-self : goal.invariant-loop-self
invariant-loop-self l =
    (l.self ≡ record l.initial.self { entries = l.self.entries; seen = l.self.seen })
    × (l.self.seen ≤ length l.self.entries)

abbrev pub decreases-loop-self : goal.decreases-loop-self
decreases-loop-self l = length l.self.entries
