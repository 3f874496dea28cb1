use Rattle.std.proofs.Common.{[], length, sym, ap, ◌∙◌}
use Rattle.std.proofs.lemmas.List.{nil_from_length}
use Rattle.asp_vault.specs.Seats.{view}
use Rattle.asp_path.specs.Trees.{open_from}
use Rattle.asp_core.specs.Boards.{Board}
use Rattle.asp_book.specs.Calls.{Knows, seen_board}
use Rattle.asp_book.proofs.CallLaws.{seen-after}
use Rattle.asp_worker.specs.Seats.{Idles}
use Rattle.asp_worker.proofs.SeatLaws.{idles-trans, idles-call}
use Rattle.asp_worker.proofs.OwnLaws.{quiet-call, quiet-later, quiet-now}
use Rattle.asp_worker.proofs.find.count_paths.Goals as goal

pub returns-clause-idles : goal.returns-clause-idles
returns-clause-idles g c =
    let v : Knows = view c.args.seat.now in let m : Knows = view c.open_leaves-open.new.seat in let w : Knows = view c.held_leaves-held.new.seat in
    let o = c.open_leaves-open.ensures.call in let h = c.held_leaves-held.ensures.call in
    idles-trans v m w (idles-call v m o.0 c.open_leaves-open.ensures.stays o.2) (idles-call m w h.0 c.held_leaves-held.ensures.stays h.2)

pub returns-clause-quiet : goal.returns-clause-quiet
returns-clause-quiet g c = λ none.
    let v : Knows = view c.args.seat.now in let m : Knows = view c.open_leaves-open.new.seat in let w : Knows = view c.held_leaves-held.new.seat in
    let o = c.open_leaves-open.ensures.call in let h = c.held_leaves-held.ensures.call in
    let i : Idles v m = idles-call v m o.0 c.open_leaves-open.ensures.stays o.2 in
    let now = ap (λ (b : Board). length (open_from 0 b.nodes)) (seen-after v m o.0 [] c.open_leaves-open.ensures.stays o.2) in
    quiet-later v.seen m.seen w i.stays.seen
    (quiet-call m w h.0 [] c.held_leaves-held.ensures.stays h.2 m.seen tt (quiet-now m (nil_from_length (open_from 0 (seen_board m).nodes) (now ∙ sym o.1 ∙ none))))
