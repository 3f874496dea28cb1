use Rattle.std.proofs.Common.{[], ◌∷◌, ◌++◌, flat_map, sym, append_assoc}
use Rattle.asp_buffer.proofs.OutLaws.{puts_then, puts_fails, puts_same}
use Rattle.asp_top.specs.Counts.{item_text, part_items, search_items}
use Rattle.asp_top.proofs.progress.put_part.Goals as goal

pub returns-in_err-put_items : goal.returns-in_err-put_items
returns-in_err-put_items g c =
    let first = flat_map item_text (part_items c.args.all c.args.counts.now) in
    let others = flat_map item_text (search_items c.args.counts.now) in
    puts_same _ _ _ _ _ (puts_fails _ _ _ _ _ first (others ++ 10 ∷ []) (rw c.part_items-first.ensures at c.in_err-put_items.ensures) c.from_residual.ensures.1)
    (sym (append_assoc first others (10 ∷ [])))

pub returns-in_err-put_items-2 : goal.returns-in_err-put_items-2
returns-in_err-put_items-2 g c =
    let first = flat_map item_text (part_items c.args.all c.args.counts.now) in
    let others = flat_map item_text (search_items c.args.counts.now) in
    puts_fails _ _ _ _ _ (first ++ others) (10 ∷ [])
    (puts_then _ _ _ _ _ first others (rw c.part_items-first.ensures at c.in_ok-put_items.ensures) (rw c.search_items-others.ensures at c.in_err-put_items-2.ensures))
    c.from_residual-in_err-put_items-2.ensures.1

pub returns : goal.returns
returns g c =
    let first = flat_map item_text (part_items c.args.all c.args.counts.now) in
    let others = flat_map item_text (search_items c.args.counts.now) in
    puts_then _ _ _ _ _ (first ++ others) (10 ∷ [])
    (puts_then _ _ _ _ _ first others (rw c.part_items-first.ensures at c.in_ok-put_items.ensures) (rw c.search_items-others.ensures at c.in_ok-put_items-2.ensures))
    c.put.ensures
