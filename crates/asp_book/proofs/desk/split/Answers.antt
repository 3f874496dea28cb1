use Rattle.std.proofs.Common.{◌≡◌, false, List, subst}
use Rattle.asp_vars.specs.Literals.{Literal}
use Rattle.asp_vault.specs.Seats.{view}
use Rattle.asp_core.specs.declared.task.Task.{Task}
use Rattle.asp_core.specs.Events.{has_var, IsVariable}
use Rattle.asp_book.specs.Calls.{Knows}
use Rattle.asp_book.specs.Replies.{Divides, divided}
use Rattle.asp_book.proofs.DeskLaws.{HasTaken, held-since, cube-since, task-since, adds, stays, replies, refuses}
use Rattle.asp_book.proofs.ReplyLaws.{divided-by}
use Rattle.asp_book.proofs.desk.split.Goals as goal

pub split-reply-requires-clause-held : goal.split-reply-requires-clause-held
split-reply-requires-clause-held g c =
    let v : Knows = view c.args.seat.now in
    let u : Knows = view c.take-book.new.seat in
    let has : HasTaken v u c.take-book.result c.number.result =
    record {
      misses = u.misses;
      took = c.take-book.ensures.view;
      learnt = c.take-book.ensures.learnt;
      about = c.take-book.ensures.about;
      sound =
          c.take-book.ensures.sound;
      number = c.number.ensures;
    } in
    held-since v u c.take-book.result c.number.result has c.args.leaf c.requires.held

pub split-reply-requires-clause-variable : goal.split-reply-requires-clause-variable
split-reply-requires-clause-variable g c =
    let v : Knows = view c.args.seat.now in
    let u : Knows = view c.take-book.new.seat in
    let has : HasTaken v u c.take-book.result c.number.result =
    record {
      misses = u.misses;
      took = c.take-book.ensures.view;
      learnt = c.take-book.ensures.learnt;
      about = c.take-book.ensures.about;
      sound =
          c.take-book.ensures.sound;
      number = c.number.ensures;
    } in
    subst (λ (t : Task). IsVariable t.program c.args.lit.var) (task-since v u c.take-book.result c.number.result has) c.requires.variable

pub split-reply-requires-clause-new : goal.split-reply-requires-clause-new
split-reply-requires-clause-new g c =
    let v : Knows = view c.args.seat.now in
    let u : Knows = view c.take-book.new.seat in
    let has : HasTaken v u c.take-book.result c.number.result =
    record {
      misses = u.misses;
      took = c.take-book.ensures.view;
      learnt = c.take-book.ensures.learnt;
      about = c.take-book.ensures.about;
      sound =
          c.take-book.ensures.sound;
      number = c.number.ensures;
    } in
    subst (λ (l : List Literal). has_var l c.args.lit.var ≡ false) (cube-since v u c.take-book.result c.number.result has c.args.leaf c.requires.held) c.requires.new

pub give-requires-clause-adds : goal.give-requires-clause-adds
give-requires-clause-adds g c =
    let v : Knows = view c.args.seat.now in
    let u : Knows = view c.take-book.new.seat in
    let has : HasTaken v u c.take-book.result c.number.result =
    record {
      misses = u.misses;
      took = c.take-book.ensures.view;
      learnt = c.take-book.ensures.learnt;
      about = c.take-book.ensures.about;
      sound =
          c.take-book.ensures.sound;
      number = c.number.ensures;
    } in
    adds v u c.take-book.result c.number.result has c.split-reply.new.self (λ k r. divided k c.args.leaf c.args.lit r)
    (divided-by c.args.leaf c.args.lit) c.split-reply.result c.split-reply.ensures.journal c.split-reply.ensures.err

pub returns-clause-stays : goal.returns-clause-stays
returns-clause-stays g c =
    let v : Knows = view c.args.seat.now in
    let u : Knows = view c.take-book.new.seat in
    let has : HasTaken v u c.take-book.result c.number.result =
    record {
      misses = u.misses;
      took = c.take-book.ensures.view;
      learnt = c.take-book.ensures.learnt;
      about = c.take-book.ensures.about;
      sound =
          c.take-book.ensures.sound;
      number = c.number.ensures;
    } in
    stays v u c.take-book.result c.number.result has (view c.give.new.seat) c.split-reply.new.self c.give.ensures.view
    (λ k r. divided k c.args.leaf c.args.lit r) c.split-reply.result c.split-reply.ensures.journal c.split-reply.ensures.err

pub returns-clause-ok : goal.returns-clause-ok
returns-clause-ok g c =
    let v : Knows = view c.args.seat.now in
    let u : Knows = view c.take-book.new.seat in
    let has : HasTaken v u c.take-book.result c.number.result =
    record {
      misses = u.misses;
      took = c.take-book.ensures.view;
      learnt = c.take-book.ensures.learnt;
      about = c.take-book.ensures.about;
      sound =
          c.take-book.ensures.sound;
      number = c.number.ensures;
    } in
    replies v u c.take-book.result c.number.result has (view c.give.new.seat) c.split-reply.new.self c.give.ensures.view
    (λ k r. divided k c.args.leaf c.args.lit r) Divides c.split-reply.result c.give.ensures.lawful c.split-reply.ensures.journal
    c.split-reply.ensures.err c.split-reply.ensures.leaves

pub returns-clause-err : goal.returns-clause-err
returns-clause-err g c =
    let v : Knows = view c.args.seat.now in
    let u : Knows = view c.take-book.new.seat in
    let has : HasTaken v u c.take-book.result c.number.result =
    record {
      misses = u.misses;
      took = c.take-book.ensures.view;
      learnt = c.take-book.ensures.learnt;
      about = c.take-book.ensures.about;
      sound =
          c.take-book.ensures.sound;
      number = c.number.ensures;
    } in
    refuses v u c.take-book.result c.number.result has (view c.give.new.seat) c.split-reply.new.self c.give.ensures.view
    (λ k r. divided k c.args.leaf c.args.lit r) c.split-reply.result c.give.ensures.lawful c.split-reply.ensures.journal c.split-reply.ensures.err
