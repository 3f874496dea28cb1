use Rattle.std.proofs.Common.{List, sym, subst}
use Rattle.std.specs.Prelude.{IsTrue}
use Rattle.asp_vars.specs.Literals.{Literal}
use Rattle.asp_vars.specs.Conflicts.{has_all}
use Rattle.asp_vars.specs.Entailment.{HitsOnly}
use Rattle.asp_vault.specs.Seats.{view}
use Rattle.asp_path.specs.Trees.{cube_of}
use Rattle.asp_core.specs.declared.task.Task.{Task}
use Rattle.asp_core.specs.Boards.{is_excused}
use Rattle.asp_book.specs.Calls.{Knows, seen_board, task_of}
use Rattle.asp_worker.proofs.SeatLaws.{board-task, closed-by}
use Rattle.asp_worker.proofs.path.close.Goals as goal

pub close-requires-clause-within : goal.close-requires-clause-within
close-requires-clause-within g c =
    let v : Knows = view c.args.seat.now in subst (λ (n : List Literal). IsTrue (has_all (cube_of (seen_board v).nodes c.args.leaf) n)) (sym c.as_slice.ensures.value) c.requires.within

pub close-requires-clause-settled : goal.close-requires-clause-settled
close-requires-clause-settled g c =
    let v : Knows = view c.args.seat.now in
    subst (λ (t : Task). HitsOnly t.program (is_excused (seen_board v)) c.as_slice.result.now) (sym (board-task v))
    (subst (λ (n : List Literal). HitsOnly (task_of v).program (is_excused (seen_board v)) n) (sym c.as_slice.ensures.value) c.requires.done)

pub returns-clause-passes : goal.returns-clause-passes
returns-clause-passes g c =
    let v : Knows = view c.args.seat.now in let w : Knows = view c.close.new.seat in
    (closed-by v w c.close.ensures.stays c.args.leaf c.as_slice.result.now c.requires.settled.run c.requires.held c.close.result c.close.ensures.ok c.close.ensures.err).0

pub returns-clause-ok : goal.returns-clause-ok
returns-clause-ok g c =
    let v : Knows = view c.args.seat.now in let w : Knows = view c.close.new.seat in
    (closed-by v w c.close.ensures.stays c.args.leaf c.as_slice.result.now c.requires.settled.run c.requires.held c.close.result c.close.ensures.ok c.close.ensures.err).1

pub returns-clause-err : goal.returns-clause-err
returns-clause-err g c =
    let v : Knows = view c.args.seat.now in let w : Knows = view c.close.new.seat in
    (closed-by v w c.close.ensures.stays c.args.leaf c.as_slice.result.now c.requires.settled.run c.requires.held c.close.result c.close.ensures.ok c.close.ensures.err).2
