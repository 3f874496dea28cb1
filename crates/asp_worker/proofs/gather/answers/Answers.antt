use Rattle.std.proofs.Common.{◌≤◌, refl, sym, ◌∙◌, subst}
use Rattle.asp_vars.specs.Paid.{Units}
use Rattle.asp_vault.specs.Seats.{view}
use Rattle.asp_path.specs.Trees.{cube_of}
use Rattle.asp_book.specs.Calls.{Knows, seen_board}
use Rattle.asp_slots.specs.Shelves.{seen_count}
use Rattle.asp_worker.specs.declared.worker.Worker.{Worker}
use Rattle.asp_worker.specs.declared.gather.Pause.{Pause}
use Rattle.asp_worker.specs.Working.{IsOn, IsPause}
use Rattle.asp_worker.proofs.GatherLaws.{gathers-begun, gathered-on}
use Rattle.asp_worker.proofs.PathLaws.{refreshed-on}
use Rattle.asp_worker.proofs.RecordLaws.{found-program}
use Rattle.asp_worker.proofs.SeatLaws.{keeps-self, keeps-seat, keeps-trans, ready-seat}
use Rattle.asp_worker.proofs.gather.answers.Goals as goal

pub gather-requires-clause-program : goal.gather-requires-clause-program
gather-requires-clause-program g c =
    let f = c.requires.found in
    f.1.on.going.work.units.0.program ∙ sym (found-program c.args.shared.now.mode (view c.args.worker.now.seat) f.0 c.args.engine.now.search c.args.engine.now.fuel c.args.leaf c.args.set f.1)

pub list_all-requires-clause-found : goal.list_all-requires-clause-found
list_all-requires-clause-found g c =
    let v : Knows = view c.args.worker.now.seat in
    let f = c.requires.found in
    let k = c.in_ok-keep.ensures in
    let G = c.in_ok-pause.ensures.gathers f.0 (cube_of (seen_board v).nodes c.args.leaf)
    (gathers-begun c.args.shared.now.mode v f.0 c.args.engine.now.search c.args.engine.now.fuel c.args.leaf c.args.set k.0 c.new-found.result.items
    c.keep.new.found.items c.requires.listing f.1 k.1 c.new-found.ensures.items k.2) in
    (f.0, c.gather.new.engine.search, c.args.engine.now.fuel, c.args.leaf, f.1.on, G)

pub refresh-requires-clause-going : goal.refresh-requires-clause-going
refresh-requires-clause-going g c =
    let v : Knows = view c.args.worker.now.seat in
    let f = c.requires.found in
    let k = c.in_ok-keep.ensures in
    let G = c.in_ok-pause.ensures.gathers f.0 (cube_of (seen_board v).nodes c.args.leaf)
    (gathers-begun c.args.shared.now.mode v f.0 c.args.engine.now.search c.args.engine.now.fuel c.args.leaf c.args.set k.0 c.new-found.result.items
    c.keep.new.found.items c.requires.listing f.1 k.1 c.new-found.ensures.items k.2) in
    let w : Knows = view c.list_all.new.seat in
    let l = c.in_ok-list_all.ensures.ok in
    let on : IsOn c.args.shared.now.mode w c.gather.new.engine.search c.gather.new.engine.fuel c.args.leaf =
    gathered-on v w l.0 c.list_all.ensures.idles.stays c.gather.new.found.items l.1 c.args.shared.now.mode f.0 c.gather.new.engine.search
    c.args.engine.now.fuel c.args.leaf f.1.on G c.gather.new.engine.fuel c.gather.ensures.engine.0 in
    on.going

pub returns-in-Due-clause-ok : goal.returns-in-Due-clause-ok
returns-in-Due-clause-ok g c =
    let v : Knows = view c.args.worker.now.seat in
    let f = c.requires.found in
    let k = c.in_ok-keep.ensures in
    let G = c.in_ok-pause.ensures.gathers f.0 (cube_of (seen_board v).nodes c.args.leaf)
    (gathers-begun c.args.shared.now.mode v f.0 c.args.engine.now.search c.args.engine.now.fuel c.args.leaf c.args.set k.0 c.new-found.result.items
    c.keep.new.found.items c.requires.listing f.1 k.1 c.new-found.ensures.items k.2) in
    let w : Knows = view c.list_all.new.seat in
    let l = c.in_ok-list_all.ensures.ok in
    let on : IsOn c.args.shared.now.mode w c.gather.new.engine.search c.gather.new.engine.fuel c.args.leaf =
    gathered-on v w l.0 c.list_all.ensures.idles.stays c.gather.new.found.items l.1 c.args.shared.now.mode f.0 c.gather.new.engine.search
    c.args.engine.now.fuel c.args.leaf f.1.on G c.gather.new.engine.fuel c.gather.ensures.engine.0 in
    on

pub returns-in-Closed-clause-ok : goal.returns-in-Closed-clause-ok
returns-in-Closed-clause-ok g c =
    let v : Knows = view c.args.worker.now.seat in
    let f = c.requires.found in
    let k = c.in_ok-keep.ensures in
    let G = c.in_ok-pause.ensures.gathers f.0 (cube_of (seen_board v).nodes c.args.leaf)
    (gathers-begun c.args.shared.now.mode v f.0 c.args.engine.now.search c.args.engine.now.fuel c.args.leaf c.args.set k.0 c.new-found.result.items
    c.keep.new.found.items c.requires.listing f.1 k.1 c.new-found.ensures.items k.2) in
    let w : Knows = view c.list_all.new.seat in
    let l = c.in_ok-list_all.ensures.ok in
    let on : IsOn c.args.shared.now.mode w c.gather.new.engine.search c.gather.new.engine.fuel c.args.leaf =
    gathered-on v w l.0 c.list_all.ensures.idles.stays c.gather.new.found.items l.1 c.args.shared.now.mode f.0 c.gather.new.engine.search
    c.args.engine.now.fuel c.args.leaf f.1.on G c.gather.new.engine.fuel c.gather.ensures.engine.0 in
    on

pub returns-in-Closed-clause-course : goal.returns-in-Closed-clause-course
returns-in-Closed-clause-course g c =
    let v : Knows = view c.args.worker.now.seat in
    let f = c.requires.found in
    let k = c.in_ok-keep.ensures in
    let G = c.in_ok-pause.ensures.gathers f.0 (cube_of (seen_board v).nodes c.args.leaf)
    (gathers-begun c.args.shared.now.mode v f.0 c.args.engine.now.search c.args.engine.now.fuel c.args.leaf c.args.set k.0 c.new-found.result.items
    c.keep.new.found.items c.requires.listing f.1 k.1 c.new-found.ensures.items k.2) in
    let w : Knows = view c.list_all.new.seat in
    let l = c.in_ok-list_all.ensures.ok in
    let on : IsOn c.args.shared.now.mode w c.gather.new.engine.search c.gather.new.engine.fuel c.args.leaf =
    gathered-on v w l.0 c.list_all.ensures.idles.stays c.gather.new.found.items l.1 c.args.shared.now.mode f.0 c.gather.new.engine.search
    c.args.engine.now.fuel c.args.leaf f.1.on G c.gather.new.engine.fuel c.gather.ensures.engine.0 in
    subst (λ (x : Pause). IsPause c.gather.new.engine.search x) c.in-Closed.is c.in_ok-pause.ensures.pause (cube_of (seen_board w).nodes c.args.leaf) on.works.entered

pub returns-in_ok-refresh-in-Restarted-clause-ok : goal.returns-in_ok-refresh-in-Restarted-clause-ok
returns-in_ok-refresh-in-Restarted-clause-ok g c =
    let v : Knows = view c.args.worker.now.seat in
    let f = c.requires.found in
    let k = c.in_ok-keep.ensures in
    let G = c.in_ok-pause.ensures.gathers f.0 (cube_of (seen_board v).nodes c.args.leaf)
    (gathers-begun c.args.shared.now.mode v f.0 c.args.engine.now.search c.args.engine.now.fuel c.args.leaf c.args.set k.0 c.new-found.result.items
    c.keep.new.found.items c.requires.listing f.1 k.1 c.new-found.ensures.items k.2) in
    let w : Knows = view c.list_all.new.seat in
    let l = c.in_ok-list_all.ensures.ok in
    let on : IsOn c.args.shared.now.mode w c.gather.new.engine.search c.gather.new.engine.fuel c.args.leaf =
    gathered-on v w l.0 c.list_all.ensures.idles.stays c.gather.new.found.items l.1 c.args.shared.now.mode f.0 c.gather.new.engine.search
    c.args.engine.now.fuel c.args.leaf f.1.on G c.gather.new.engine.fuel c.gather.ensures.engine.0 in
    let x : Knows = view c.refresh.new.worker.seat in
    subst (λ (u : Units). IsOn c.args.shared.now.mode x c.refresh.new.engine.search u c.args.leaf) (sym c.refresh.ensures.fuel)
    (refreshed-on c.args.shared.now.mode w x c.gather.new.engine.search c.refresh.new.engine.search c.gather.new.engine.fuel c.args.leaf
    c.refresh.new.worker.pages c.gather.new.engine.read on c.refresh.ensures.idles c.in_ok-refresh-in-Restarted.ensures.ok)

pub returns-in_err-keep-clause-keeps : goal.returns-in_err-keep-clause-keeps
returns-in_err-keep-clause-keeps g c = keeps-self c.args.shared.now c.args.worker.now c.requires.ready

pub returns-in_err-keep-clause-ready : goal.returns-in_err-keep-clause-ready
returns-in_err-keep-clause-ready g c = c.requires.ready

pub returns-in_err-pause-clause-keeps : goal.returns-in_err-pause-clause-keeps
returns-in_err-pause-clause-keeps g c = keeps-self c.args.shared.now c.args.worker.now c.requires.ready

pub returns-in_err-pause-clause-ready : goal.returns-in_err-pause-clause-ready
returns-in_err-pause-clause-ready g c = c.requires.ready

pub returns-in_err-list_all-clause-keeps : goal.returns-in_err-list_all-clause-keeps
returns-in_err-list_all-clause-keeps g c =
    let h : Worker = c.args.worker.now in let k : Worker = record h { seat = c.list_all.new.seat } in
    keeps-seat c.args.shared.now h k c.requires.ready c.list_all.ensures.of c.list_all.ensures.idles.stays refl

pub returns-in_err-list_all-clause-ready : goal.returns-in_err-list_all-clause-ready
returns-in_err-list_all-clause-ready g c =
    let h : Worker = c.args.worker.now in let k : Worker = record h { seat = c.list_all.new.seat } in
    ready-seat c.args.shared.now h k c.requires.ready
    (keeps-seat c.args.shared.now h k c.requires.ready c.list_all.ensures.of c.list_all.ensures.idles.stays refl) c.requires.ready.pool
    c.list_all.ensures.idles.lawful

pub returns-in-Due-clause-keeps : goal.returns-in-Due-clause-keeps
returns-in-Due-clause-keeps g c =
    let h : Worker = c.args.worker.now in let k : Worker = record h { seat = c.list_all.new.seat } in
    keeps-seat c.args.shared.now h k c.requires.ready c.list_all.ensures.of c.list_all.ensures.idles.stays refl

pub returns-in-Due-clause-ready : goal.returns-in-Due-clause-ready
returns-in-Due-clause-ready g c =
    let h : Worker = c.args.worker.now in let k : Worker = record h { seat = c.list_all.new.seat } in
    ready-seat c.args.shared.now h k c.requires.ready
    (keeps-seat c.args.shared.now h k c.requires.ready c.list_all.ensures.of c.list_all.ensures.idles.stays refl) c.requires.ready.pool
    c.list_all.ensures.idles.lawful

pub returns-in-Closed-clause-keeps : goal.returns-in-Closed-clause-keeps
returns-in-Closed-clause-keeps g c =
    let h : Worker = c.args.worker.now in let k : Worker = record h { seat = c.list_all.new.seat } in
    keeps-seat c.args.shared.now h k c.requires.ready c.list_all.ensures.of c.list_all.ensures.idles.stays refl

pub returns-in-Closed-clause-ready : goal.returns-in-Closed-clause-ready
returns-in-Closed-clause-ready g c =
    let h : Worker = c.args.worker.now in let k : Worker = record h { seat = c.list_all.new.seat } in
    ready-seat c.args.shared.now h k c.requires.ready
    (keeps-seat c.args.shared.now h k c.requires.ready c.list_all.ensures.of c.list_all.ensures.idles.stays refl) c.requires.ready.pool
    c.list_all.ensures.idles.lawful

pub refresh-requires-clause-ready : goal.refresh-requires-clause-ready
refresh-requires-clause-ready g c =
    let h : Worker = c.args.worker.now in let k : Worker = record h { seat = c.list_all.new.seat } in
    ready-seat c.args.shared.now h k c.requires.ready
    (keeps-seat c.args.shared.now h k c.requires.ready c.list_all.ensures.of c.list_all.ensures.idles.stays refl) c.requires.ready.pool
    c.list_all.ensures.idles.lawful

pub refresh-requires-clause-read : goal.refresh-requires-clause-read
refresh-requires-clause-read g c = subst (λ n. n ≤ seen_count c.args.worker.now.pages) (sym c.gather.ensures.engine.1) c.requires.read

pub returns-in_ok-refresh-in-Restarted-clause-keeps : goal.returns-in_ok-refresh-in-Restarted-clause-keeps
returns-in_ok-refresh-in-Restarted-clause-keeps g c =
    let h : Worker = c.args.worker.now in let k : Worker = record h { seat = c.list_all.new.seat } in
    keeps-trans h k c.refresh.new.worker (keeps-seat c.args.shared.now h k c.requires.ready c.list_all.ensures.of c.list_all.ensures.idles.stays refl) c.refresh.ensures.keeps

pub returns-in_ok-refresh-in-Restarted-clause-ready : goal.returns-in_ok-refresh-in-Restarted-clause-ready
returns-in_ok-refresh-in-Restarted-clause-ready g c = c.refresh.ensures.ready

pub returns-in_ok-refresh-in-Restarted-clause-read : goal.returns-in_ok-refresh-in-Restarted-clause-read
returns-in_ok-refresh-in-Restarted-clause-read g c = c.refresh.ensures.read

pub returns-in_err-refresh-in-Restarted-clause-keeps : goal.returns-in_err-refresh-in-Restarted-clause-keeps
returns-in_err-refresh-in-Restarted-clause-keeps g c =
    let h : Worker = c.args.worker.now in let k : Worker = record h { seat = c.list_all.new.seat } in
    keeps-trans h k c.refresh.new.worker (keeps-seat c.args.shared.now h k c.requires.ready c.list_all.ensures.of c.list_all.ensures.idles.stays refl) c.refresh.ensures.keeps

pub returns-in_err-refresh-in-Restarted-clause-ready : goal.returns-in_err-refresh-in-Restarted-clause-ready
returns-in_err-refresh-in-Restarted-clause-ready g c = c.refresh.ensures.ready

pub returns-in_err-refresh-in-Restarted-clause-read : goal.returns-in_err-refresh-in-Restarted-clause-read
returns-in_err-refresh-in-Restarted-clause-read g c = c.refresh.ensures.read
