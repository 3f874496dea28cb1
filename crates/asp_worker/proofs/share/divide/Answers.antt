use Rattle.std.proofs.Common.{refl, sym, subst}
use Rattle.asp_vault.specs.Seats.{view}
use Rattle.asp_core.specs.declared.task.Task.{Task}
use Rattle.asp_core.specs.Events.{IsVariable}
use Rattle.asp_worker.specs.declared.worker.Worker.{Worker}
use Rattle.asp_worker.proofs.SeatLaws.{board-task, keeps-seat, ready-seat, divided-passes, divided-none, divided-some, none-idles, idles-passes, holds-idles, half-err}
use Rattle.asp_worker.proofs.share.divide.Goals as goal

pub split-requires-clause-variable : goal.split-requires-clause-variable
split-requires-clause-variable g c = subst (λ (t : Task). IsVariable t.program c.args.lit.var) (sym (board-task (view c.args.worker.now.seat))) c.requires.variable

pub returns-in_err-split-clause-keeps : goal.returns-in_err-split-clause-keeps
returns-in_err-split-clause-keeps g c =
    let h : Worker = c.args.worker.now in let k : Worker = record h { seat = c.split.new.seat } in
    keeps-seat c.args.shared.now h k c.requires.ready c.split.ensures.of c.split.ensures.stays refl

pub returns-in_err-split-clause-passes : goal.returns-in_err-split-clause-passes
returns-in_err-split-clause-passes g c =
    idles-passes (view c.args.worker.now.seat) (view c.split.new.seat)
    (none-idles (view c.args.worker.now.seat) (view c.split.new.seat) c.split.ensures.stays c.in_err-split.ensures.err)

pub returns-in_err-split-clause-half : goal.returns-in_err-split-clause-half
returns-in_err-split-clause-half g c =
    half-err (view c.args.worker.now.seat) (view c.split.new.seat) c.args.leaf c.args.lit c.from_residual.result c.from_residual.ensures.0
    (holds-idles (view c.args.worker.now.seat) (view c.split.new.seat) c.args.leaf c.requires.held
    (none-idles (view c.args.worker.now.seat) (view c.split.new.seat) c.split.ensures.stays c.in_err-split.ensures.err))

pub returns-in-None-clause-passes : goal.returns-in-None-clause-passes
returns-in-None-clause-passes g c = let k = c.in_ok-split.ensures.ok in
    divided-passes (view c.args.worker.now.seat) (view c.split.new.seat) c.split.ensures.stays c.args.leaf c.args.lit c.requires.held k.0
    c.in_ok-split.field-0 k.2

pub returns-in-None-clause-half : goal.returns-in-None-clause-half
returns-in-None-clause-half g c = let k = c.in_ok-split.ensures.ok in
    divided-none (view c.args.worker.now.seat) (view c.split.new.seat) c.split.ensures.stays c.args.leaf c.args.lit c.requires.held k.0
    c.in_ok-split.field-0 c.in-None.is k.2

pub returns-in-Some-clause-passes : goal.returns-in-Some-clause-passes
returns-in-Some-clause-passes g c = let k = c.in_ok-split.ensures.ok in
    divided-passes (view c.args.worker.now.seat) (view c.split.new.seat) c.split.ensures.stays c.args.leaf c.args.lit c.requires.held k.0
    c.in_ok-split.field-0 k.2

pub returns-in-Some-clause-half : goal.returns-in-Some-clause-half
returns-in-Some-clause-half g c = let k = c.in_ok-split.ensures.ok in
    divided-some (view c.args.worker.now.seat) (view c.split.new.seat) c.split.ensures.stays c.args.leaf c.args.lit c.requires.held k.0
    c.in_ok-split.field-0 c.in-Some.mine c.in-Some.half c.in-Some.is k.1.leaves k.2

pub returns-in_err-split-clause-ready : goal.returns-in_err-split-clause-ready
returns-in_err-split-clause-ready g c =
    let h : Worker = c.args.worker.now in let k : Worker = record h { seat = c.split.new.seat } in
    let i = none-idles (view h.seat) (view k.seat) c.split.ensures.stays c.in_err-split.ensures.err in
    ready-seat c.args.shared.now h k c.requires.ready (keeps-seat c.args.shared.now h k c.requires.ready c.split.ensures.of c.split.ensures.stays refl) c.requires.ready.pool i.lawful

pub returns-in-None-clause-keeps : goal.returns-in-None-clause-keeps
returns-in-None-clause-keeps g c =
    let h : Worker = c.args.worker.now in let k : Worker = record h { seat = c.split.new.seat } in
    keeps-seat c.args.shared.now h k c.requires.ready c.split.ensures.of c.split.ensures.stays refl

pub returns-in-None-clause-ready : goal.returns-in-None-clause-ready
returns-in-None-clause-ready g c =
    let h : Worker = c.args.worker.now in let k : Worker = record h { seat = c.split.new.seat } in
    let r = c.in_ok-split.ensures.ok in
    let p = divided-passes (view h.seat) (view k.seat) c.split.ensures.stays c.args.leaf c.args.lit c.requires.held r.0 c.in_ok-split.field-0 r.2 in
    ready-seat c.args.shared.now h k c.requires.ready (keeps-seat c.args.shared.now h k c.requires.ready c.split.ensures.of c.split.ensures.stays refl) c.requires.ready.pool p.lawful

pub returns-in-Some-clause-keeps : goal.returns-in-Some-clause-keeps
returns-in-Some-clause-keeps g c =
    let h : Worker = c.args.worker.now in let k : Worker = record h { seat = c.split.new.seat; lane = c.put.new.lane } in
    keeps-seat c.args.shared.now h k c.requires.ready c.split.ensures.of c.split.ensures.stays refl

pub returns-in-Some-clause-ready : goal.returns-in-Some-clause-ready
returns-in-Some-clause-ready g c =
    let h : Worker = c.args.worker.now in let k : Worker = record h { seat = c.split.new.seat; lane = c.put.new.lane } in
    let r = c.in_ok-split.ensures.ok in
    let p = divided-passes (view h.seat) (view k.seat) c.split.ensures.stays c.args.leaf c.args.lit c.requires.held r.0 c.in_ok-split.field-0 r.2 in
    ready-seat c.args.shared.now h k c.requires.ready (keeps-seat c.args.shared.now h k c.requires.ready c.split.ensures.of c.split.ensures.stays refl) c.requires.ready.pool p.lawful
