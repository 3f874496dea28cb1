use Rattle.std.proofs.Common.{◌≡◌, false, min, None}
use Rattle.asp_vault.specs.Seats.{view}
use Rattle.asp_book.specs.Calls.{Knows}
use Rattle.asp_book.specs.Replies.{leased_out}
use Rattle.asp_book.proofs.DeskLaws.{HasTaken, adds, stays, replies, refuses}
use Rattle.asp_book.proofs.ReplyLaws.{leased_out-by}
use Rattle.asp_book.proofs.desk.lease.Goals as goal

pub give-requires-clause-adds : goal.give-requires-clause-adds
give-requires-clause-adds g c =
    let v : Knows = view c.args.seat.now in
    let u : Knows = view c.take-book.new.seat in
    let has : HasTaken v u c.take-book.result c.number.result =
    record {
      misses = u.misses;
      took = c.take-book.ensures.view;
      learnt = c.take-book.ensures.learnt;
      about = c.take-book.ensures.about;
      sound =
          c.take-book.ensures.sound;
      number = c.number.ensures;
    } in
    adds v u c.take-book.result c.number.result has c.lease-reply.new.self leased_out leased_out-by c.lease-reply.result c.lease-reply.ensures.journal c.lease-reply.ensures.err

pub returns-clause-stays : goal.returns-clause-stays
returns-clause-stays g c =
    let v : Knows = view c.args.seat.now in
    let u : Knows = view c.take-book.new.seat in
    let has : HasTaken v u c.take-book.result c.number.result =
    record {
      misses = u.misses;
      took = c.take-book.ensures.view;
      learnt = c.take-book.ensures.learnt;
      about = c.take-book.ensures.about;
      sound =
          c.take-book.ensures.sound;
      number = c.number.ensures;
    } in
    stays v u c.take-book.result c.number.result has (view c.give.new.seat) c.lease-reply.new.self c.give.ensures.view leased_out c.lease-reply.result
    c.lease-reply.ensures.journal c.lease-reply.ensures.err

pub returns-clause-ok : goal.returns-clause-ok
returns-clause-ok g c =
    let v : Knows = view c.args.seat.now in
    let u : Knows = view c.take-book.new.seat in
    let has : HasTaken v u c.take-book.result c.number.result =
    record {
      misses = u.misses;
      took = c.take-book.ensures.view;
      learnt = c.take-book.ensures.learnt;
      about = c.take-book.ensures.about;
      sound =
          c.take-book.ensures.sound;
      number = c.number.ensures;
    } in
    replies v u c.take-book.result c.number.result has (view c.give.new.seat) c.lease-reply.new.self c.give.ensures.view leased_out
    (λ b x. x ≡ record { program = b.task.program; left = min c.args.units b.pool; burnt = 0; reasoned = false; known = 0; least = None })
    c.lease-reply.result c.give.ensures.lawful c.lease-reply.ensures.journal c.lease-reply.ensures.err c.lease-reply.ensures.fuel

pub returns-clause-err : goal.returns-clause-err
returns-clause-err g c =
    let v : Knows = view c.args.seat.now in
    let u : Knows = view c.take-book.new.seat in
    let has : HasTaken v u c.take-book.result c.number.result =
    record {
      misses = u.misses;
      took = c.take-book.ensures.view;
      learnt = c.take-book.ensures.learnt;
      about = c.take-book.ensures.about;
      sound =
          c.take-book.ensures.sound;
      number = c.number.ensures;
    } in
    refuses v u c.take-book.result c.number.result has (view c.give.new.seat) c.lease-reply.new.self c.give.ensures.view leased_out
    c.lease-reply.result c.give.ensures.lawful c.lease-reply.ensures.journal c.lease-reply.ensures.err
