use Rattle.std.proofs.Common.{◌≡◌}
use Rattle.std.specs.Prelude.{slice_get}
use Rattle.asp_vault.specs.Seats.{view}
use Rattle.asp_path.specs.Trees.{open_from}
use Rattle.asp_book.specs.Calls.{Knows}
use Rattle.asp_book.specs.Replies.{taken}
use Rattle.asp_book.proofs.DeskLaws.{HasTaken, free-since, adds, stays, replies, refuses}
use Rattle.asp_book.proofs.ReplyLaws.{taken-by}
use Rattle.asp_book.proofs.desk.take.Goals as goal

pub take-reply-requires : goal.take-reply-requires
take-reply-requires g c =
    let v : Knows = view c.args.seat.now in
    let u : Knows = view c.take-book.new.seat in
    let has : HasTaken v u c.take-book.result c.number.result =
    record {
      misses = u.misses;
      took = c.take-book.ensures.view;
      learnt = c.take-book.ensures.learnt;
      about = c.take-book.ensures.about;
      sound =
          c.take-book.ensures.sound;
      number = c.number.ensures;
    } in
    free-since v u c.take-book.result c.number.result has c.requires.free

pub give-requires-clause-adds : goal.give-requires-clause-adds
give-requires-clause-adds g c =
    let v : Knows = view c.args.seat.now in
    let u : Knows = view c.take-book.new.seat in
    let has : HasTaken v u c.take-book.result c.number.result =
    record {
      misses = u.misses;
      took = c.take-book.ensures.view;
      learnt = c.take-book.ensures.learnt;
      about = c.take-book.ensures.about;
      sound =
          c.take-book.ensures.sound;
      number = c.number.ensures;
    } in
    adds v u c.take-book.result c.number.result has c.take-reply.new.self taken taken-by c.take-reply.result c.take-reply.ensures.journal c.take-reply.ensures.err

pub returns-clause-stays : goal.returns-clause-stays
returns-clause-stays g c =
    let v : Knows = view c.args.seat.now in
    let u : Knows = view c.take-book.new.seat in
    let has : HasTaken v u c.take-book.result c.number.result =
    record {
      misses = u.misses;
      took = c.take-book.ensures.view;
      learnt = c.take-book.ensures.learnt;
      about = c.take-book.ensures.about;
      sound =
          c.take-book.ensures.sound;
      number = c.number.ensures;
    } in
    stays v u c.take-book.result c.number.result has (view c.give.new.seat) c.take-reply.new.self c.give.ensures.view taken c.take-reply.result c.take-reply.ensures.journal c.take-reply.ensures.err

pub returns-clause-ok : goal.returns-clause-ok
returns-clause-ok g c =
    let v : Knows = view c.args.seat.now in
    let u : Knows = view c.take-book.new.seat in
    let has : HasTaken v u c.take-book.result c.number.result =
    record {
      misses = u.misses;
      took = c.take-book.ensures.view;
      learnt = c.take-book.ensures.learnt;
      about = c.take-book.ensures.about;
      sound =
          c.take-book.ensures.sound;
      number = c.number.ensures;
    } in
    replies v u c.take-book.result c.number.result has (view c.give.new.seat) c.take-reply.new.self c.give.ensures.view taken
    (λ b r. r ≡ slice_get (open_from 0 b.nodes) 0) c.take-reply.result c.give.ensures.lawful c.take-reply.ensures.journal c.take-reply.ensures.err
    c.take-reply.ensures.leaf

pub returns-clause-err : goal.returns-clause-err
returns-clause-err g c =
    let v : Knows = view c.args.seat.now in
    let u : Knows = view c.take-book.new.seat in
    let has : HasTaken v u c.take-book.result c.number.result =
    record {
      misses = u.misses;
      took = c.take-book.ensures.view;
      learnt = c.take-book.ensures.learnt;
      about = c.take-book.ensures.about;
      sound =
          c.take-book.ensures.sound;
      number = c.number.ensures;
    } in
    refuses v u c.take-book.result c.number.result has (view c.give.new.seat) c.take-reply.new.self c.give.ensures.view taken c.take-reply.result
    c.give.ensures.lawful c.take-reply.ensures.journal c.take-reply.ensures.err
