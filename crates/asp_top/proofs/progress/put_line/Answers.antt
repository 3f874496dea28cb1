use Rattle.std.proofs.Common.{◌++◌, flat_map, sym, append_assoc}
use Rattle.std.specs.Option.{option_copied}
use Rattle.asp_buffer.proofs.OutLaws.{puts_then, puts_fails, puts_same}
use Rattle.asp_top.specs.Counts.{item_text, told_items}
use Rattle.asp_top.specs.Progress.{best_text, end_of}
use Rattle.asp_top.proofs.progress.put_line.Goals as goal

pub returns-in_err-put_items : goal.returns-in_err-put_items
returns-in_err-put_items g c =
    let items = flat_map item_text (told_items c.args.counts.now) in
    let best = best_text (option_copied c.args.best) in
    puts_same _ _ _ _ _ (puts_fails _ _ _ _ _ items (best ++ end_of c.args.counts.now.query)
    (rw c.told_items-items.ensures at c.in_err-put_items.ensures) c.from_residual.ensures.1) (sym (append_assoc items best (end_of c.args.counts.now.query)))

pub returns-in_err-put_best : goal.returns-in_err-put_best
returns-in_err-put_best g c =
    let items = flat_map item_text (told_items c.args.counts.now) in
    puts_fails _ _ _ _ _ (items ++ best_text (option_copied c.args.best)) (end_of c.args.counts.now.query)
    (puts_then _ _ _ _ _ items (best_text (option_copied c.args.best)) (rw c.told_items-items.ensures at c.in_ok-put_items.ensures) c.in_err-put_best.ensures) c.from_residual-in_err-put_best.ensures.1

pub returns : goal.returns
returns g c =
    let items = flat_map item_text (told_items c.args.counts.now) in
    puts_then _ _ _ _ _ (items ++ best_text (option_copied c.args.best)) (end_of c.args.counts.now.query)
    (puts_then _ _ _ _ _ items (best_text (option_copied c.args.best)) (rw c.told_items-items.ensures at c.in_ok-put_items.ensures) c.in_ok-put_best.ensures) c.put_end.ensures
