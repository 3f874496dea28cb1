use Rattle.std.proofs.Common.{◌∙◌, false, sym, arith}
use Rattle.std.proofs.lemmas.List.{get_or_read}
use Rattle.asp_source.proofs.QueueLaws.{free}
use Rattle.asp_source.proofs.queue.Queue.add.Goals as goal

pub push_reserved-requires : goal.push_reserved-requires
push_reserved-requires c =
    let h = rw (← c.self.view_is) at c.requires in
    let was = get_or_read c.self.inside.marks.items _ _ h c.index-was.ensures false in
    omega (arith, c.self.inside.queue.ok.0, free c.self.inside.marks.items c.self.inside.queue.items _ c.args.number c.self.invariant h (sym was ∙ c.if-was.false))
