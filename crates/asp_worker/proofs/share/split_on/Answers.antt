use Rattle.asp_vault.specs.Seats.{view}
use Rattle.asp_book.specs.Calls.{Knows}
use Rattle.asp_worker.specs.Working.{IsOff}
use Rattle.asp_worker.proofs.Replies.{always-err}
use Rattle.asp_worker.proofs.SeatLaws.{half-none, half-some, keeps-trans}
use Rattle.asp_worker.proofs.GoingLaws.{goes-on, owes-of, owes-on}
use Rattle.asp_worker.proofs.PathLaws.{kept-on, open-lit}
use Rattle.asp_slots.proofs.ShelfLaws.{still-seen}
use Rattle.asp_worker.proofs.share.split_on.Goals as goal

pub divide-requires-clause-variable : goal.divide-requires-clause-variable
divide-requires-clause-variable g c =
    (open-lit c.args.shared.now.mode (view c.args.worker.now.seat) c.args.engine.now.search c.args.engine.now.fuel c.args.leaf.now c.args.lit
    c.requires.on c.requires.open).0

pub divide-requires-clause-new : goal.divide-requires-clause-new
divide-requires-clause-new g c =
    (open-lit c.args.shared.now.mode (view c.args.worker.now.seat) c.args.engine.now.search c.args.engine.now.fuel c.args.leaf.now c.args.lit
    c.requires.on c.requires.open).1

pub returns-in_err-divide-clause-err : goal.returns-in_err-divide-clause-err
returns-in_err-divide-clause-err g c =
    let v : Knows = view c.args.worker.now.seat in let w : Knows = view c.divide.new.worker.seat in
    always-err c.from_residual.result (IsOff w c.args.engine.now.fuel c.args.leaf.now)
    (record { held = c.in_err-divide.ensures.half; units = owes-on v w c.args.engine.now.fuel (owes-of c.requires.on.going) c.divide.ensures.passes })

pub begin-requires-clause-held : goal.begin-requires-clause-held
begin-requires-clause-held g c =
    half-some (view c.args.worker.now.seat) (view c.divide.new.worker.seat) c.args.leaf.now c.args.lit c.in_ok-divide.field-0 c.in-Some.half
    c.in_ok-divide.ensures.half c.in-Some.is

pub begin-requires-clause-going : goal.begin-requires-clause-going
begin-requires-clause-going g c =
    let v : Knows = view c.args.worker.now.seat in let w : Knows = view c.divide.new.worker.seat in
    goes-on c.args.shared.now.mode v w c.args.engine.now.search c.args.engine.now.fuel c.requires.on.going c.divide.ensures.passes

pub returns-in-None-clause-ok : goal.returns-in-None-clause-ok
returns-in-None-clause-ok g c =
    let v : Knows = view c.args.worker.now.seat in let w : Knows = view c.divide.new.worker.seat in
    kept-on c.args.shared.now.mode v w c.args.engine.now.search c.args.engine.now.fuel c.args.leaf.now c.requires.on c.divide.ensures.passes
    (half-none v w c.args.leaf.now c.args.lit c.in_ok-divide.field-0 c.in_ok-divide.ensures.half c.in-None.is)

pub returns-in_err-divide-clause-read : goal.returns-in_err-divide-clause-read
returns-in_err-divide-clause-read g c = still-seen c.args.engine.now.read c.args.worker.now.pages c.divide.new.worker.pages c.divide.ensures.keeps.pages c.requires.read

pub begin-requires-clause-read : goal.begin-requires-clause-read
begin-requires-clause-read g c = still-seen c.args.engine.now.read c.args.worker.now.pages c.divide.new.worker.pages c.divide.ensures.keeps.pages c.requires.read

pub returns-in-None-clause-read : goal.returns-in-None-clause-read
returns-in-None-clause-read g c = still-seen c.args.engine.now.read c.args.worker.now.pages c.divide.new.worker.pages c.divide.ensures.keeps.pages c.requires.read

pub returns-in-Some-clause-keeps : goal.returns-in-Some-clause-keeps
returns-in-Some-clause-keeps g c = keeps-trans c.args.worker.now c.divide.new.worker c.begin.new.worker c.divide.ensures.keeps c.begin.ensures.keeps
