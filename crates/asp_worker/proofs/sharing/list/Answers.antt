use Rattle.std.proofs.Common.{◌≡◌, true, subst}
use Rattle.asp_model.specs.declared.program.Program.{Program}
use Rattle.asp_model.specs.Models.{atoms_of}
use Rattle.asp_rows.specs.Listed.{IsRowFor}
use Rattle.asp_vault.specs.Seats.{view}
use Rattle.asp_worker.proofs.SeatLaws.{idles-self, none-idles}
use Rattle.asp_worker.proofs.RecordLaws.{found-program, is-answer, is-listed, listing-enum, sought-none, delivered-goes, delivered-idles}
use Rattle.asp_core.specs.Boards.{is_enough}
use Rattle.asp_core.specs.Events.{replay}
use Rattle.asp_book.specs.Calls.{task_of}
use Rattle.asp_worker.proofs.OwnLaws.{enough-by, was-call}
use Rattle.asp_worker.proofs.Replies.{memory-stop}
use Rattle.asp_worker.proofs.sharing.list.Goals as goal

pub list-requires-clause-listed : goal.list-requires-clause-listed
list-requires-clause-listed g c = let f = c.requires.found in
    is-listed c.args.shared.now.mode (view c.args.seat.now) f.0 c.args.engine.now.search c.args.engine.now.fuel f.1 c.args.set
    (listing-enum c.args.shared.now.mode c.requires.listing) f.2

pub list-requires-clause-answer : goal.list-requires-clause-answer
list-requires-clause-answer g c = let f = c.requires.found in
    is-answer c.args.shared.now.mode (view c.args.seat.now) f.0 c.args.engine.now.search c.args.engine.now.fuel f.1 c.args.set c.requires.settled f.2

pub list-requires-clause-goal : goal.list-requires-clause-goal
list-requires-clause-goal g c = let f = c.requires.found in
    sought-none c.args.shared.now.mode (view c.args.seat.now) f.0 c.args.engine.now.search c.args.engine.now.fuel f.1 c.args.set c.requires.listing
    f.2

pub list-requires-clause-row : goal.list-requires-clause-row
list-requires-clause-row g c =
    let f = c.requires.found in
    subst (λ (p : Program). IsRowFor (atoms_of p) c.args.set c.in_ok-row.row)
    (found-program c.args.shared.now.mode (view c.args.seat.now) f.0 c.args.engine.now.search c.args.engine.now.fuel f.1 c.args.set f.2)
    c.in_ok-row.ensures

pub returns-in_err-row-clause-idles : goal.returns-in_err-row-clause-idles
returns-in_err-row-clause-idles g c = idles-self (view c.args.seat.now) c.requires.settled

pub returns-in_err-row-clause-stop : goal.returns-in_err-row-clause-stop
returns-in_err-row-clause-stop g c = memory-stop (view c.args.seat.now) c.from_residual.result c.from_residual.ensures.1

pub returns-in_err-listed-clause-idles : goal.returns-in_err-listed-clause-idles
returns-in_err-listed-clause-idles g c = none-idles (view c.args.seat.now) (view c.list.new.seat) c.list.ensures.stays c.in_err-listed.ensures.err

pub returns-then-listed-clause-idles : goal.returns-then-listed-clause-idles
returns-then-listed-clause-idles g c =
    let f = c.requires.found in let k = c.in_ok-listed.ensures.ok in
    delivered-idles (view c.args.seat.now) (view c.list.new.seat) k.0 c.list.ensures.stays f.0 c.args.engine.now.search c.args.engine.now.fuel f.1
    c.args.set c.args.shared.now.mode (listing-enum c.args.shared.now.mode c.requires.listing) f.2 c.in_ok-listed.listed k.2

pub returns-then-listed-clause-ok : goal.returns-then-listed-clause-ok
returns-then-listed-clause-ok g c =
    let f = c.requires.found in let k = c.in_ok-listed.ensures.ok in
    delivered-goes (view c.args.seat.now) (view c.list.new.seat) k.0 c.list.ensures.stays f.0 c.args.engine.now.search c.args.engine.now.fuel f.1
    c.args.set c.args.shared.now.mode (listing-enum c.args.shared.now.mode c.requires.listing) f.2 c.in_ok-listed.listed c.if-listed.true k.2

pub returns-else-listed-clause-idles : goal.returns-else-listed-clause-idles
returns-else-listed-clause-idles g c =
    let f = c.requires.found in let k = c.in_ok-listed.ensures.ok in
    delivered-idles (view c.args.seat.now) (view c.list.new.seat) k.0 c.list.ensures.stays f.0 c.args.engine.now.search c.args.engine.now.fuel f.1
    c.args.set c.args.shared.now.mode (listing-enum c.args.shared.now.mode c.requires.listing) f.2 c.in_ok-listed.listed k.2

pub returns-in_err-listed-clause-stop : goal.returns-in_err-listed-clause-stop
returns-in_err-listed-clause-stop g c = memory-stop (view c.list.new.seat) c.from_residual-in_err-listed.result c.from_residual-in_err-listed.ensures.1

pub returns-else-listed-clause-stop : goal.returns-else-listed-clause-stop
returns-else-listed-clause-stop g c =
    let k = c.in_ok-listed.ensures.ok in
    was-call (view c.args.seat.now) (view c.list.new.seat) k.0 _ c.list.ensures.stays k.2 (λ b. is_enough b ≡ true)
    (enough-by (is_enough (replay (task_of (view c.args.seat.now)) k.0)) c.in_ok-listed.listed k.1 c.if-listed.false)
