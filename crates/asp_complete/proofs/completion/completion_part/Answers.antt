use Rattle.std.proofs.Common.{◌∙◌, sym, arith}
use Rattle.asp_complete.proofs.ListedLaws.{group_more}
use Rattle.asp_complete.proofs.completion.completion_part.Goals as goal

pub loop-group-preserved : goal.loop-group-preserved
loop-group-preserved c =
    let more = group_more c.args.compiled.now c.args.from c.loop-group.group (omega arith) (omega arith) in
    rw c.loop-group.invariant at (c.in_ok-add_group.ensures) ∙ sym more
