use Rattle.asp_buffer.proofs.OutLaws.{puts_then, puts_fails}
use Rattle.asp_top.specs.Counts.{program_items}
use Rattle.asp_top.specs.Notes.{items_text, loops_text}
use Rattle.asp_top.proofs.notes.put_program.Goals as goal

pub returns-in_err-put_items : goal.returns-in_err-put_items
returns-in_err-put_items g c =
    puts_fails _ _ _ _ _ (items_text (program_items c.args.tally.now)) (loops_text c.args.tally.now.loops) (rw c.program_items-items.ensures at c.in_err-put_items.ensures) c.from_residual.ensures.1

pub returns : goal.returns
returns g c =
    puts_then _ _ _ _ _ (items_text (program_items c.args.tally.now)) (loops_text c.args.tally.now.loops) (rw c.program_items-items.ensures at c.in_ok-put_items.ensures) c.put_loops.ensures
