use Rattle.std.proofs.Common.{subst}
use Rattle.std.specs.Prelude.{IsTrue}
use Rattle.asp_vault.specs.Seats.{view}
use Rattle.asp_core.specs.declared.task.Task.{Task}
use Rattle.asp_core.specs.Boards.{is_answer, optimises}
use Rattle.asp_book.specs.Calls.{Knows}
use Rattle.asp_book.specs.Replies.{Improves, improved}
use Rattle.asp_book.proofs.DeskLaws.{HasTaken, task-since, adds, stays, replies, refuses}
use Rattle.asp_book.proofs.ReplyLaws.{improved-by}
use Rattle.asp_book.proofs.desk.improve.Goals as goal

pub improve-reply-requires-clause-goal : goal.improve-reply-requires-clause-goal
improve-reply-requires-clause-goal g c =
    let v : Knows = view c.args.seat.now in
    let u : Knows = view c.take-book.new.seat in
    let has : HasTaken v u c.take-book.result c.number.result =
    record {
      misses = u.misses;
      took = c.take-book.ensures.view;
      learnt = c.take-book.ensures.learnt;
      about = c.take-book.ensures.about;
      sound =
          c.take-book.ensures.sound;
      number = c.number.ensures;
    } in
    subst (λ (t : Task). IsTrue (optimises t.goal)) (task-since v u c.take-book.result c.number.result has) c.requires.goal

pub improve-reply-requires-clause-answer : goal.improve-reply-requires-clause-answer
improve-reply-requires-clause-answer g c =
    let v : Knows = view c.args.seat.now in
    let u : Knows = view c.take-book.new.seat in
    let has : HasTaken v u c.take-book.result c.number.result =
    record {
      misses = u.misses;
      took = c.take-book.ensures.view;
      learnt = c.take-book.ensures.learnt;
      about = c.take-book.ensures.about;
      sound =
          c.take-book.ensures.sound;
      number = c.number.ensures;
    } in
    subst (λ (t : Task). IsTrue (is_answer t c.args.set)) (task-since v u c.take-book.result c.number.result has) c.requires.answer

pub give-requires-clause-adds : goal.give-requires-clause-adds
give-requires-clause-adds g c =
    let v : Knows = view c.args.seat.now in
    let u : Knows = view c.take-book.new.seat in
    let has : HasTaken v u c.take-book.result c.number.result =
    record {
      misses = u.misses;
      took = c.take-book.ensures.view;
      learnt = c.take-book.ensures.learnt;
      about = c.take-book.ensures.about;
      sound =
          c.take-book.ensures.sound;
      number = c.number.ensures;
    } in
    adds v u c.take-book.result c.number.result has c.improve-reply.new.self (λ k r. improved k c.args.set r) (improved-by c.args.set)
    c.improve-reply.result c.improve-reply.ensures.journal c.improve-reply.ensures.err

pub returns-clause-stays : goal.returns-clause-stays
returns-clause-stays g c =
    let v : Knows = view c.args.seat.now in
    let u : Knows = view c.take-book.new.seat in
    let has : HasTaken v u c.take-book.result c.number.result =
    record {
      misses = u.misses;
      took = c.take-book.ensures.view;
      learnt = c.take-book.ensures.learnt;
      about = c.take-book.ensures.about;
      sound =
          c.take-book.ensures.sound;
      number = c.number.ensures;
    } in
    stays v u c.take-book.result c.number.result has (view c.give.new.seat) c.improve-reply.new.self c.give.ensures.view
    (λ k r. improved k c.args.set r) c.improve-reply.result c.improve-reply.ensures.journal c.improve-reply.ensures.err

pub returns-clause-ok : goal.returns-clause-ok
returns-clause-ok g c =
    let v : Knows = view c.args.seat.now in
    let u : Knows = view c.take-book.new.seat in
    let has : HasTaken v u c.take-book.result c.number.result =
    record {
      misses = u.misses;
      took = c.take-book.ensures.view;
      learnt = c.take-book.ensures.learnt;
      about = c.take-book.ensures.about;
      sound =
          c.take-book.ensures.sound;
      number = c.number.ensures;
    } in
    replies v u c.take-book.result c.number.result has (view c.give.new.seat) c.improve-reply.new.self c.give.ensures.view
    (λ k r. improved k c.args.set r) (λ b r. Improves b c.args.set r) c.improve-reply.result c.give.ensures.lawful c.improve-reply.ensures.journal
    c.improve-reply.ensures.err c.improve-reply.ensures.best

pub returns-clause-err : goal.returns-clause-err
returns-clause-err g c =
    let v : Knows = view c.args.seat.now in
    let u : Knows = view c.take-book.new.seat in
    let has : HasTaken v u c.take-book.result c.number.result =
    record {
      misses = u.misses;
      took = c.take-book.ensures.view;
      learnt = c.take-book.ensures.learnt;
      about = c.take-book.ensures.about;
      sound =
          c.take-book.ensures.sound;
      number = c.number.ensures;
    } in
    refuses v u c.take-book.result c.number.result has (view c.give.new.seat) c.improve-reply.new.self c.give.ensures.view
    (λ k r. improved k c.args.set r) c.improve-reply.result c.give.ensures.lawful c.improve-reply.ensures.journal c.improve-reply.ensures.err
