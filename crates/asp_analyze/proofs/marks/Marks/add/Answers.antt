use Rattle.std.proofs.Common.{arith}
use Rattle.std.specs.Vec.{vec_capacity}
use Rattle.asp_analyze.proofs.MarkLaws.{marks_added}
use Rattle.asp_analyze.proofs.marks.Marks.add.Goals as goal

pub invariant_of-self : goal.invariant_of-self
invariant_of-self c =
    let small = rw (← c.self.view_is) at c.requires.small in
    let clean = rw (← c.self.view_is) at c.requires.clean in
    rw (c.push_reserved.ensures.items, c.var.ensures, c.ones.ensures.value)
    (marks_added c.self.inside.marks.items c.self.inside.lits.items c.self.inside.pending (vec_capacity c.self.inside.lits) (vec_capacity c.push_reserved.new.self) c.args.lit c.args.mark
    c.self.invariant (omega (arith, c.push_reserved.ensures.capacity)) small clean c.requires.mark)
