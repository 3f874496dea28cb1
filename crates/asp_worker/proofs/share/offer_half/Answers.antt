use Rattle.std.proofs.Common.{Option, IfSome, refl, subst}
use Rattle.asp_vars.specs.Literals.{Literal}
use Rattle.asp_vault.specs.Seats.{view}
use Rattle.asp_book.specs.Calls.{Knows}
use Rattle.asp_search.specs.Beside.{IsOpen}
use Rattle.asp_worker.specs.declared.worker.Worker.{Worker}
use Rattle.asp_worker.specs.Seats.{Idles}
use Rattle.asp_worker.proofs.SeatLaws.{idles-call, keeps-self, keeps-seat, keeps-trans, ready-seat}
use Rattle.asp_worker.proofs.GoingLaws.{on-on}
use Rattle.asp_worker.proofs.share.offer_half.Goals as goal

pub returns-in-None-clause-keeps : goal.returns-in-None-clause-keeps
returns-in-None-clause-keeps g c = keeps-self c.args.shared.now c.args.worker.now c.requires.ready

pub returns-then-not-wanted-clause-keeps : goal.returns-then-not-wanted-clause-keeps
returns-then-not-wanted-clause-keeps g c =
    let h : Worker = c.args.worker.now in let k : Worker = record h { seat = c.wanted.new.seat } in
    keeps-seat c.args.shared.now h k c.requires.ready c.wanted.ensures.of c.wanted.ensures.stays refl

pub returns-then-not-wanted-clause-ready : goal.returns-then-not-wanted-clause-ready
returns-then-not-wanted-clause-ready g c =
    let h : Worker = c.args.worker.now in let k : Worker = record h { seat = c.wanted.new.seat } in
    let i : Idles (view h.seat) (view k.seat) = idles-call (view h.seat) (view k.seat) c.wanted.ensures.call.0 c.wanted.ensures.stays c.wanted.ensures.call.2 in
    ready-seat c.args.shared.now h k c.requires.ready (keeps-seat c.args.shared.now h k c.requires.ready c.wanted.ensures.of c.wanted.ensures.stays refl) c.requires.ready.pool i.lawful

pub returns-then-not-wanted-clause-ok : goal.returns-then-not-wanted-clause-ok
returns-then-not-wanted-clause-ok g c =
    let v : Knows = view c.args.worker.now.seat in let m : Knows = view c.wanted.new.seat in
    on-on c.args.shared.now.mode v m c.args.engine.now.search c.args.engine.now.fuel c.args.leaf.now c.requires.on
    (idles-call v m c.wanted.ensures.call.0 c.wanted.ensures.stays c.wanted.ensures.call.2)

pub split_on-requires-clause-ready : goal.split_on-requires-clause-ready
split_on-requires-clause-ready g c =
    let h : Worker = c.args.worker.now in let k : Worker = record h { seat = c.wanted.new.seat } in
    let i : Idles (view h.seat) (view k.seat) = idles-call (view h.seat) (view k.seat) c.wanted.ensures.call.0 c.wanted.ensures.stays c.wanted.ensures.call.2 in
    ready-seat c.args.shared.now h k c.requires.ready (keeps-seat c.args.shared.now h k c.requires.ready c.wanted.ensures.of c.wanted.ensures.stays refl) c.requires.ready.pool i.lawful

pub split_on-requires-clause-on : goal.split_on-requires-clause-on
split_on-requires-clause-on g c =
    let v : Knows = view c.args.worker.now.seat in let m : Knows = view c.wanted.new.seat in
    on-on c.args.shared.now.mode v m c.args.engine.now.search c.args.engine.now.fuel c.args.leaf.now c.requires.on
    (idles-call v m c.wanted.ensures.call.0 c.wanted.ensures.stays c.wanted.ensures.call.2)

pub split_on-requires-clause-open : goal.split_on-requires-clause-open
split_on-requires-clause-open g c = λ q e. subst (λ (x : Option Literal). IfSome x (IsOpen c.args.engine.now.search.program q)) c.in-Some.is (c.divider.ensures q e)

pub returns-else-not-wanted-clause-keeps : goal.returns-else-not-wanted-clause-keeps
returns-else-not-wanted-clause-keeps g c =
    let h : Worker = c.args.worker.now in let k : Worker = record h { seat = c.wanted.new.seat } in
    keeps-trans h k c.split_on.new.worker (keeps-seat c.args.shared.now h k c.requires.ready c.wanted.ensures.of c.wanted.ensures.stays refl) c.split_on.ensures.keeps
