use Rattle.std.proofs.Common.{◌≡◌, None, not, subst}
use Rattle.std.specs.Prelude.{IsTrue}
use Rattle.asp_model.specs.Models.{atoms_of}
use Rattle.asp_rows.specs.Listed.{IsRowFor}
use Rattle.asp_vault.specs.Seats.{view}
use Rattle.asp_core.specs.declared.task.Task.{Task}
use Rattle.asp_core.specs.Boards.{lists, is_answer, is_enough, sought}
use Rattle.asp_book.specs.Calls.{Knows}
use Rattle.asp_book.specs.Replies.{delivered}
use Rattle.asp_book.proofs.DeskLaws.{HasTaken, task-since, adds, stays, replies, refuses}
use Rattle.asp_book.proofs.ReplyLaws.{delivered-by}
use Rattle.asp_book.proofs.desk.list.Goals as goal

pub list-reply-requires-clause-listed : goal.list-reply-requires-clause-listed
list-reply-requires-clause-listed g c =
    let v : Knows = view c.args.seat.now in
    let u : Knows = view c.take-book.new.seat in
    let has : HasTaken v u c.take-book.result c.number.result =
    record {
      misses = u.misses;
      took = c.take-book.ensures.view;
      learnt = c.take-book.ensures.learnt;
      about = c.take-book.ensures.about;
      sound =
          c.take-book.ensures.sound;
      number = c.number.ensures;
    } in
    subst (λ (t : Task). IsTrue (lists t c.args.set)) (task-since v u c.take-book.result c.number.result has) c.requires.listed

pub list-reply-requires-clause-answer : goal.list-reply-requires-clause-answer
list-reply-requires-clause-answer g c =
    let v : Knows = view c.args.seat.now in
    let u : Knows = view c.take-book.new.seat in
    let has : HasTaken v u c.take-book.result c.number.result =
    record {
      misses = u.misses;
      took = c.take-book.ensures.view;
      learnt = c.take-book.ensures.learnt;
      about = c.take-book.ensures.about;
      sound =
          c.take-book.ensures.sound;
      number = c.number.ensures;
    } in
    subst (λ (t : Task). IsTrue (is_answer t c.args.set)) (task-since v u c.take-book.result c.number.result has) c.requires.answer

pub list-reply-requires-clause-goal : goal.list-reply-requires-clause-goal
list-reply-requires-clause-goal g c =
    let v : Knows = view c.args.seat.now in
    let u : Knows = view c.take-book.new.seat in
    let has : HasTaken v u c.take-book.result c.number.result =
    record {
      misses = u.misses;
      took = c.take-book.ensures.view;
      learnt = c.take-book.ensures.learnt;
      about = c.take-book.ensures.about;
      sound =
          c.take-book.ensures.sound;
      number = c.number.ensures;
    } in
    subst (λ (t : Task). sought t.goal ≡ None) (task-since v u c.take-book.result c.number.result has) c.requires.goal

pub list-reply-requires-clause-row : goal.list-reply-requires-clause-row
list-reply-requires-clause-row g c =
    let v : Knows = view c.args.seat.now in
    let u : Knows = view c.take-book.new.seat in
    let has : HasTaken v u c.take-book.result c.number.result =
    record {
      misses = u.misses;
      took = c.take-book.ensures.view;
      learnt = c.take-book.ensures.learnt;
      about = c.take-book.ensures.about;
      sound =
          c.take-book.ensures.sound;
      number = c.number.ensures;
    } in
    subst (λ (t : Task). IsRowFor (atoms_of t.program) c.args.set c.args.row) (task-since v u c.take-book.result c.number.result has) c.requires.row

pub give-requires-clause-adds : goal.give-requires-clause-adds
give-requires-clause-adds g c =
    let v : Knows = view c.args.seat.now in
    let u : Knows = view c.take-book.new.seat in
    let has : HasTaken v u c.take-book.result c.number.result =
    record {
      misses = u.misses;
      took = c.take-book.ensures.view;
      learnt = c.take-book.ensures.learnt;
      about = c.take-book.ensures.about;
      sound =
          c.take-book.ensures.sound;
      number = c.number.ensures;
    } in
    adds v u c.take-book.result c.number.result has c.list-reply.new.self (λ k r. delivered k c.args.set r) (delivered-by c.args.set)
    c.list-reply.result c.list-reply.ensures.journal c.list-reply.ensures.err

pub returns-clause-stays : goal.returns-clause-stays
returns-clause-stays g c =
    let v : Knows = view c.args.seat.now in
    let u : Knows = view c.take-book.new.seat in
    let has : HasTaken v u c.take-book.result c.number.result =
    record {
      misses = u.misses;
      took = c.take-book.ensures.view;
      learnt = c.take-book.ensures.learnt;
      about = c.take-book.ensures.about;
      sound =
          c.take-book.ensures.sound;
      number = c.number.ensures;
    } in
    stays v u c.take-book.result c.number.result has (view c.give.new.seat) c.list-reply.new.self c.give.ensures.view
    (λ k r. delivered k c.args.set r) c.list-reply.result c.list-reply.ensures.journal c.list-reply.ensures.err

pub returns-clause-ok : goal.returns-clause-ok
returns-clause-ok g c =
    let v : Knows = view c.args.seat.now in
    let u : Knows = view c.take-book.new.seat in
    let has : HasTaken v u c.take-book.result c.number.result =
    record {
      misses = u.misses;
      took = c.take-book.ensures.view;
      learnt = c.take-book.ensures.learnt;
      about = c.take-book.ensures.about;
      sound =
          c.take-book.ensures.sound;
      number = c.number.ensures;
    } in
    replies v u c.take-book.result c.number.result has (view c.give.new.seat) c.list-reply.new.self c.give.ensures.view
    (λ k r. delivered k c.args.set r) (λ b r. r ≡ not (is_enough b)) c.list-reply.result c.give.ensures.lawful c.list-reply.ensures.journal
    c.list-reply.ensures.err c.list-reply.ensures.enough

pub returns-clause-err : goal.returns-clause-err
returns-clause-err g c =
    let v : Knows = view c.args.seat.now in
    let u : Knows = view c.take-book.new.seat in
    let has : HasTaken v u c.take-book.result c.number.result =
    record {
      misses = u.misses;
      took = c.take-book.ensures.view;
      learnt = c.take-book.ensures.learnt;
      about = c.take-book.ensures.about;
      sound =
          c.take-book.ensures.sound;
      number = c.number.ensures;
    } in
    refuses v u c.take-book.result c.number.result has (view c.give.new.seat) c.list-reply.new.self c.give.ensures.view
    (λ k r. delivered k c.args.set r) c.list-reply.result c.give.ensures.lawful c.list-reply.ensures.journal c.list-reply.ensures.err
