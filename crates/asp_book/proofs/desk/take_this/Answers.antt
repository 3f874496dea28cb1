use Rattle.std.proofs.Common.{◌≡◌}
use Rattle.asp_vault.specs.Seats.{view}
use Rattle.asp_path.specs.Trees.{status_of, is_open}
use Rattle.asp_book.specs.Calls.{Knows}
use Rattle.asp_book.specs.Replies.{taken_this}
use Rattle.asp_book.proofs.DeskLaws.{HasTaken, free-since, adds, stays, replies, refuses}
use Rattle.asp_book.proofs.ReplyLaws.{taken_this-by}
use Rattle.asp_book.proofs.desk.take_this.Goals as goal

pub take_this-reply-requires : goal.take_this-reply-requires
take_this-reply-requires g c =
    let v : Knows = view c.args.seat.now in
    let u : Knows = view c.take-book.new.seat in
    let has : HasTaken v u c.take-book.result c.number.result =
    record {
      misses = u.misses;
      took = c.take-book.ensures.view;
      learnt = c.take-book.ensures.learnt;
      about = c.take-book.ensures.about;
      sound =
          c.take-book.ensures.sound;
      number = c.number.ensures;
    } in
    free-since v u c.take-book.result c.number.result has c.requires.free

pub give-requires-clause-adds : goal.give-requires-clause-adds
give-requires-clause-adds g c =
    let v : Knows = view c.args.seat.now in
    let u : Knows = view c.take-book.new.seat in
    let has : HasTaken v u c.take-book.result c.number.result =
    record {
      misses = u.misses;
      took = c.take-book.ensures.view;
      learnt = c.take-book.ensures.learnt;
      about = c.take-book.ensures.about;
      sound =
          c.take-book.ensures.sound;
      number = c.number.ensures;
    } in
    adds v u c.take-book.result c.number.result has c.take_this-reply.new.self (λ k r. taken_this k c.args.leaf r) (taken_this-by c.args.leaf)
    c.take_this-reply.result c.take_this-reply.ensures.journal c.take_this-reply.ensures.err

pub returns-clause-stays : goal.returns-clause-stays
returns-clause-stays g c =
    let v : Knows = view c.args.seat.now in
    let u : Knows = view c.take-book.new.seat in
    let has : HasTaken v u c.take-book.result c.number.result =
    record {
      misses = u.misses;
      took = c.take-book.ensures.view;
      learnt = c.take-book.ensures.learnt;
      about = c.take-book.ensures.about;
      sound =
          c.take-book.ensures.sound;
      number = c.number.ensures;
    } in
    stays v u c.take-book.result c.number.result has (view c.give.new.seat) c.take_this-reply.new.self c.give.ensures.view
    (λ k r. taken_this k c.args.leaf r) c.take_this-reply.result c.take_this-reply.ensures.journal c.take_this-reply.ensures.err

pub returns-clause-ok : goal.returns-clause-ok
returns-clause-ok g c =
    let v : Knows = view c.args.seat.now in
    let u : Knows = view c.take-book.new.seat in
    let has : HasTaken v u c.take-book.result c.number.result =
    record {
      misses = u.misses;
      took = c.take-book.ensures.view;
      learnt = c.take-book.ensures.learnt;
      about = c.take-book.ensures.about;
      sound =
          c.take-book.ensures.sound;
      number = c.number.ensures;
    } in
    replies v u c.take-book.result c.number.result has (view c.give.new.seat) c.take_this-reply.new.self c.give.ensures.view
    (λ k r. taken_this k c.args.leaf r) (λ b r. r ≡ is_open (status_of b.nodes c.args.leaf)) c.take_this-reply.result c.give.ensures.lawful
    c.take_this-reply.ensures.journal c.take_this-reply.ensures.err c.take_this-reply.ensures.open_leaf

pub returns-clause-err : goal.returns-clause-err
returns-clause-err g c =
    let v : Knows = view c.args.seat.now in
    let u : Knows = view c.take-book.new.seat in
    let has : HasTaken v u c.take-book.result c.number.result =
    record {
      misses = u.misses;
      took = c.take-book.ensures.view;
      learnt = c.take-book.ensures.learnt;
      about = c.take-book.ensures.about;
      sound =
          c.take-book.ensures.sound;
      number = c.number.ensures;
    } in
    refuses v u c.take-book.result c.number.result has (view c.give.new.seat) c.take_this-reply.new.self c.give.ensures.view
    (λ k r. taken_this k c.args.leaf r) c.take_this-reply.result c.give.ensures.lawful c.take_this-reply.ensures.journal
    c.take_this-reply.ensures.err
