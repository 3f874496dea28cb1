use Rattle.std.proofs.Common.{◌+◌, ◌≤◌, length}
use Rattle.asp_read.specs.Sizes.{program_size}
use Rattle.asp_read.specs.Fields.{most_counted}
use Rattle.asp_read.proofs.Priorities.{kept_minimize}
use Rattle.asp_read.proofs.draft.Draft.add.Goals as goal

pub invariant_of-self-in-Minimize : goal.invariant_of-self-in-Minimize
invariant_of-self-in-Minimize c =
    let bound : program_size c.args.self.now + length c.in-Minimize.minimize.items ≤ most_counted = rw c.in-Minimize.is at c.requires in
    kept_minimize _ c.args.self.now c.in-Minimize.minimize c.self.inside.used c.self.inside.priorities.items _ _ _ c.self.invariant c.self.view_is bound
    c.in_ok-add_minimize-in-Minimize.ensures.list c.as_slice.ensures.len c.in_ok-add_minimize-in-Minimize.ensures.seen
