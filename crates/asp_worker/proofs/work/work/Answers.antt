use Rattle.std.proofs.Common.{inl, inr, true, refl}
use Rattle.asp_vault.specs.Seats.{view}
use Rattle.asp_slots.proofs.ShelfLaws.{stays-self, reads-self}
use Rattle.asp_worker.specs.declared.worker.Worker.{Worker}
use Rattle.asp_worker.specs.Seats.{Keeps}
use Rattle.asp_worker.proofs.SeatLaws.{keeps-trans, placed-seat}
use Rattle.asp_worker.proofs.EndLaws.{given-idle, given-small, given-cause}
use Rattle.asp_worker.proofs.work.work.Goals as goal

pub returns-in-Err-clause-work : goal.returns-in-Err-clause-work
returns-in-Err-clause-work g c =
    let m : Worker = c.searched.new.worker in let k : Worker = record m { short = true } in
    let p = c.searched.ensures.placed in
    let keeps : Keeps m k = record { book = refl; seat = stays-self (view m.seat) p.settled.seated.rests; pages = reads-self c.args.shared.now.log m.pages p.log } in
    record {
      keeps = keeps-trans c.args.worker.now m k c.searched.ensures.keeps keeps;
      ready = placed-seat c.args.shared.now m k p keeps p.pool p.settled.seated.lawful;
      idle = c.in-Err.ensures.idle;
      small = c.searched.ensures.small;
      cause = inr (inl refl);
    }

pub returns-in-Ok-clause-work : goal.returns-in-Ok-clause-work
returns-in-Ok-clause-work g c =
    let m : Worker = c.searched.new.worker in
    let k : Worker = record { seat = c.back.new.seat; pages = m.pages; lane = m.lane; pass = m.pass; short = c.in-Ok.short } in
    let p = c.searched.ensures.placed in
    let keeps : Keeps m k = record { book = c.back.ensures.of; seat = c.back.ensures.stays; pages = reads-self c.args.shared.now.log m.pages p.log } in
    let idle = given-idle (view m.seat) (view k.seat) c.back.ensures.call.0 c.back.ensures.stays c.in-Ok.fuel p.settled c.in-Ok.ensures.free c.in-Ok.ensures.owes c.back.ensures.call.1 in
    record {
      keeps = keeps-trans c.args.worker.now m k c.searched.ensures.keeps keeps;
      ready = placed-seat c.args.shared.now m k p keeps p.pool idle.settled.seated.lawful;
      idle = idle;
      small = given-small (view m.seat) (view k.seat) c.back.ensures.call.0 c.back.ensures.stays c.in-Ok.fuel c.in-Ok.ensures.owes c.back.ensures.call.1 c.searched.ensures.small;
      cause = given-cause (view m.seat) (view k.seat) c.back.ensures.call.0 c.back.ensures.stays c.in-Ok.fuel c.in-Ok.ensures.owes
          c.back.ensures.call.1 (g.H.Halt.never c.args.halt.now → ⊥) c.in-Ok.short (view c.args.worker.now.seat).seen c.in-Ok.ensures.cause;
    }
